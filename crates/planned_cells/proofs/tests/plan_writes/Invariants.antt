use Rattle.incll_var.specs.Cells.{epoch_of}
use Rattle.incll_var.specs.Plans.{IsPlanned}
use Rattle.planned_cells.proofs.tests.plan_writes.Given as goal

abbrev pub invariant-loop-line : goal.invariant-loop-line
invariant-loop-line g l = IsPlanned (epoch_of l.cells.state) l.cells.bank.lines l.plan.stores
