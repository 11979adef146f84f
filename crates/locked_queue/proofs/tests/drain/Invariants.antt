use Rattle.std.proofs.Common.{◌≡◌, None}
use Rattle.locked_queue.proofs.tests.drain.Given as goal

abbrev pub invariant-loop-item : goal.invariant-loop-item
invariant-loop-item g l = record {
  settings : l.room.settings ≡ l.initial.room.settings;
  number : l.room.room ≡ l.initial.room.room;
  state : l.room.cells.state ≡ l.initial.room.cells.state;
  idle : l.room.under_way ≡ None;
}
