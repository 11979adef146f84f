use Rattle.std.proofs.Common.{◌≡◌, None}
use Rattle.command_room.specs.Room.{memory_words_of}
use Rattle.locked_queue.proofs.tests.carry_out_all.Given as goal

abbrev pub invariant-loop-command : goal.invariant-loop-command
invariant-loop-command g l = record {
  settings : l.room.settings ≡ l.initial.room.settings;
  number : l.room.room ≡ l.initial.room.room;
  state : l.room.cells.state ≡ l.initial.room.cells.state;
  idle : l.room.under_way ≡ None;
  held : memory_words_of l.room ≡ memory_words_of l.initial.room;
}
