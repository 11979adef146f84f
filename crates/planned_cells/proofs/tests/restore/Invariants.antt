use Rattle.incll_var.specs.Cells.{MayRestore}
use Rattle.planned_cells.proofs.tests.restore.Given as goal

abbrev pub invariant-loop : goal.invariant-loop
invariant-loop g l = MayRestore l.room.cells.state
