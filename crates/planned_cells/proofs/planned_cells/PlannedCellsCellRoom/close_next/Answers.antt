use Rattle.std.proofs.Common.{◌≡◌, sym, subst, length}
use Rattle.room_model.specs.Chains.{HasSameRecords}
use Rattle.planned_cells.specs.Planned.{PlannedState, ArePlannedCells, planned_words, memory_words_in}
use Rattle.planned_cells.proofs.Rests.{written_lines, at_rest, closing_none, written_words, written_held}
use Rattle.incll_var.specs.Cells.{IsClosing}
use Rattle.planned_cells.proofs.planned_cells.PlannedCellsCellRoom.close_next.Goals as goal

closing : (c : goal.After-close_next) → IsClosing c.self.inside.cells.state
closing c = subst (λ (p : PlannedState). IsClosing p.cells.state) (sym c.self.view_is) c.requires.closing

behind : (c : goal.After-close_next) → ArePlannedCells c.close_next.new.self c.self.inside.plan
behind c = at_rest c.close_next.new.self c.self.inside.plan c.close_next.ensures.cells (closing_none c.self.inside.cells c.self.inside.plan c.self.invariant (closing c))

pub invariant_of-self : goal.invariant_of-self
invariant_of-self c = behind c

pub returns-clause-words : goal.returns-clause-words
returns-clause-words c =
    subst (λ (p : PlannedState). HasSameRecords (planned_words c.close_next.new.self c.self.inside.plan) (planned_words p.cells p.plan)) c.self.view_is
    (written_words c.self.inside.cells c.close_next.new.self c.self.inside.plan (closing c) c.close_next.ensures.is c.close_next.ensures.line)

pub returns-clause-in_memory : goal.returns-clause-in_memory
returns-clause-in_memory c =
    subst (λ (p : PlannedState). memory_words_in c.close_next.new.self ≡ memory_words_in p.cells) c.self.view_is
    (written_held c.self.inside.cells c.close_next.new.self c.close_next.ensures.is c.close_next.ensures.line)

pub returns-clause-whole : goal.returns-clause-whole
returns-clause-whole c = behind c

pub returns-clause-lines : goal.returns-clause-lines
returns-clause-lines c = subst (λ (p : PlannedState). length c.close_next.new.self.bank.lines ≡ length p.cells.bank.lines) c.self.view_is (written_lines c.self.inside.cells c.close_next.new.self c.close_next.ensures.line)
