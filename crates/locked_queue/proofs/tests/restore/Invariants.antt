use Rattle.std.proofs.Common.{◌≡◌, None}
use Rattle.incll_var.specs.Cells.{MayRestore, epoch_of}
use Rattle.locked_queue.proofs.tests.restore.Given as goal

abbrev pub invariant-loop : goal.invariant-loop
invariant-loop g l = record {
  settings : l.room.settings ≡ l.initial.room.settings;
  number : l.room.room ≡ l.initial.room.room;
  idle : l.room.under_way ≡ None;
  may : MayRestore l.room.cells.state;
  epoch : epoch_of l.room.cells.state ≡ epoch_of l.initial.room.cells.state;
}
