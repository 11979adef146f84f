use Rattle.std.proofs.Common.{ap, sym, subst}
use Rattle.command_room.specs.Room.{CommandRoomState}
use Rattle.incll_var.specs.Cells.{IsClosing}
use Rattle.planned_cells.proofs.Rests.{closing_still}
use Rattle.planned_cells.specs.Planned.{PlannedState}
use Rattle.command_room.proofs.Moves.{still_kept}
use Rattle.command_room.proofs.room.CommandRoomCellRoom.close_fence.Goals as goal

pub invariant_of-self : goal.invariant_of-self
invariant_of-self c = still_kept _ c.close_fence.new.self c.self.invariant (closing_still _ (subst (λ (s : CommandRoomState). IsClosing s.cells.state) (sym c.self.view_is) c.requires.closing)) (ap (λ (p : PlannedState). p.plan) c.close_fence.ensures.is) c.close_fence.ensures.whole c.close_fence.ensures.lines c.close_fence.ensures.words

pub returns-clause-whole : goal.returns-clause-whole
returns-clause-whole c = still_kept _ c.close_fence.new.self c.self.invariant (closing_still _ (subst (λ (s : CommandRoomState). IsClosing s.cells.state) (sym c.self.view_is) c.requires.closing)) (ap (λ (p : PlannedState). p.plan) c.close_fence.ensures.is) c.close_fence.ensures.whole c.close_fence.ensures.lines c.close_fence.ensures.words
