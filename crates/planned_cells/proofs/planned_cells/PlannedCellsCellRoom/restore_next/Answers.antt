use Rattle.std.proofs.Common.{sym, subst, ◌≡◌, length}
use Rattle.planned_cells.specs.Planned.{PlannedState, ArePlannedCells}
use Rattle.planned_cells.proofs.Rests.{restored_lines, at_rest, restore_none}
use Rattle.incll_var.specs.Cells.{MayRestore}
use Rattle.planned_cells.proofs.planned_cells.PlannedCellsCellRoom.restore_next.Goals as goal

may : (c : goal.After-restore_next) → MayRestore c.self.inside.cells.state
may c = subst (λ (p : PlannedState). MayRestore p.cells.state) (sym c.self.view_is) c.requires.may

behind : (c : goal.After-restore_next) → ArePlannedCells c.restore_next.new.self c.self.inside.plan
behind c = at_rest c.restore_next.new.self c.self.inside.plan c.restore_next.ensures.cells (restore_none c.self.inside.cells c.self.inside.plan c.self.invariant (may c))

pub invariant_of-self : goal.invariant_of-self
invariant_of-self c = behind c

pub returns-clause-whole : goal.returns-clause-whole
returns-clause-whole c = behind c

pub returns-clause-lines : goal.returns-clause-lines
returns-clause-lines c = subst (λ (p : PlannedState). length c.restore_next.new.self.bank.lines ≡ length p.cells.bank.lines) c.self.view_is (restored_lines c.self.inside.cells c.restore_next.new.self c.restore_next.ensures.is)
