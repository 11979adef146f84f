use Rattle.std.proofs.Common.{ap, sym, subst}
use Rattle.command_room.specs.Room.{CommandRoomState}
use Rattle.incll_var.specs.Cells.{MayRestore}
use Rattle.planned_cells.proofs.Rests.{restore_still}
use Rattle.planned_cells.specs.Planned.{PlannedState}
use Rattle.command_room.proofs.Moves.{still_kept}
use Rattle.command_room.proofs.room.CommandRoomCellRoom.restore_next.Goals as goal

pub invariant_of-self : goal.invariant_of-self
invariant_of-self c = still_kept _ c.restore_next.new.self c.self.invariant (restore_still _ (subst (λ (s : CommandRoomState). MayRestore s.cells.state) (sym c.self.view_is) c.requires.may)) (ap (λ (p : PlannedState). p.plan) c.restore_next.ensures.is) c.restore_next.ensures.whole c.restore_next.ensures.lines c.restore_next.ensures.words

pub returns-clause-whole : goal.returns-clause-whole
returns-clause-whole c = still_kept _ c.restore_next.new.self c.self.invariant (restore_still _ (subst (λ (s : CommandRoomState). MayRestore s.cells.state) (sym c.self.view_is) c.requires.may)) (ap (λ (p : PlannedState). p.plan) c.restore_next.ensures.is) c.restore_next.ensures.whole c.restore_next.ensures.lines c.restore_next.ensures.words
