use Rattle.std.proofs.Common.{sym, subst, ◌≡◌, length}
use Rattle.room_model.specs.Chains.{HasSameRecords}
use Rattle.planned_cells.specs.Planned.{PlannedState, ArePlannedCells, planned_words}
use Rattle.planned_cells.proofs.Rests.{fenced_lines, at_rest, closing_none, fenced_words}
use Rattle.incll_var.specs.Cells.{IsClosing}
use Rattle.planned_cells.proofs.planned_cells.PlannedCellsCellRoom.close_fence.Goals as goal

closing : (c : goal.After-close_fence) → IsClosing c.self.inside.cells.state
closing c = subst (λ (p : PlannedState). IsClosing p.cells.state) (sym c.self.view_is) c.requires.closing

behind : (c : goal.After-close_fence) → ArePlannedCells c.close_fence.new.self c.self.inside.plan
behind c = at_rest c.close_fence.new.self c.self.inside.plan c.close_fence.ensures.cells (closing_none c.self.inside.cells c.self.inside.plan c.self.invariant (closing c))

pub invariant_of-self : goal.invariant_of-self
invariant_of-self c = behind c

pub returns-clause-words : goal.returns-clause-words
returns-clause-words c =
    subst (λ (p : PlannedState). HasSameRecords (planned_words c.close_fence.new.self c.self.inside.plan) (planned_words p.cells p.plan)) c.self.view_is
    (fenced_words c.self.inside.cells c.close_fence.new.self c.self.inside.plan (closing c) (closing_none c.self.inside.cells c.self.inside.plan c.self.invariant (closing c)) c.close_fence.ensures.is
    c.close_fence.ensures.loads)

pub returns-clause-whole : goal.returns-clause-whole
returns-clause-whole c = behind c

pub returns-clause-lines : goal.returns-clause-lines
returns-clause-lines c = subst (λ (p : PlannedState). length c.close_fence.new.self.bank.lines ≡ length p.cells.bank.lines) c.self.view_is (fenced_lines c.self.inside.cells c.close_fence.new.self c.close_fence.ensures.is)
