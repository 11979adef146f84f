use Rattle.std.proofs.Common.{◌≡◌, None, ap, sym, subst}
use Rattle.command_room.specs.Room.{CommandRoomState}
use Rattle.planned_cells.specs.Planned.{PlannedState}
use Rattle.command_room.proofs.Moves.{idle_kept}
use Rattle.command_room.proofs.room.CommandRoomCellRoom.close_begin.Goals as goal

pub invariant_of-self : goal.invariant_of-self
invariant_of-self c = idle_kept _ c.close_begin.new.self c.self.invariant (subst (λ (s : CommandRoomState). s.under_way ≡ None) (sym c.self.view_is) c.requires.idle) (ap (λ (p : PlannedState). p.plan) c.close_begin.ensures.is) c.close_begin.ensures.whole c.close_begin.ensures.lines c.close_begin.ensures.words

pub returns-clause-whole : goal.returns-clause-whole
returns-clause-whole c = idle_kept _ c.close_begin.new.self c.self.invariant (subst (λ (s : CommandRoomState). s.under_way ≡ None) (sym c.self.view_is) c.requires.idle) (ap (λ (p : PlannedState). p.plan) c.close_begin.ensures.is) c.close_begin.ensures.whole c.close_begin.ensures.lines c.close_begin.ensures.words
