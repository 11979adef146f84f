use Rattle.std.proofs.Common.{sym, subst}
use Rattle.planned_cells.specs.Planned.{PlannedState}
use Rattle.planned_cells.proofs.Rests.{entered}
use Rattle.incll_var.specs.Cells.{MayEnter}
use Rattle.planned_cells.proofs.planned_cells.PlannedCellsCellRoom.enter.Goals as goal

may : (c : goal.After-enter) → MayEnter c.self.inside.cells.state c.args.epoch
may c = subst (λ (p : PlannedState). MayEnter p.cells.state c.args.epoch) (sym c.self.view_is) c.requires.may

pub invariant_of-self : goal.invariant_of-self
invariant_of-self c = entered c.self.inside.cells c.enter.new.self c.self.inside.plan c.args.epoch c.self.invariant (may c) c.enter.ensures.is c.enter.ensures.cells

pub returns-clause-whole : goal.returns-clause-whole
returns-clause-whole c = entered c.self.inside.cells c.enter.new.self c.self.inside.plan c.args.epoch c.self.invariant (may c) c.enter.ensures.is c.enter.ensures.cells
