use Rattle.std.proofs.Common.{length}
use Rattle.incll_var.specs.Cells.{IsRunning, epoch_of}
use Rattle.incll_var.specs.Plans.{IsPlanned, HasPlacesFor}
use Rattle.incll_var.proofs.tests.write.Given as goal

abbrev pub invariant-loop-cells : goal.invariant-loop-cells
invariant-loop-cells g l = record {
  running : IsRunning l.cells.state;
  planned : IsPlanned (epoch_of l.cells.state) l.cells.bank.lines l.plan.stores;
  room : HasPlacesFor l.cells.bank.lines l.plan.stores;
}

abbrev pub decreases-loop-cells : goal.decreases-loop-cells
decreases-loop-cells g l = length l.plan.stores
