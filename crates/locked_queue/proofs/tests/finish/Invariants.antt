use Rattle.std.proofs.Common.{◌≡◌, length}
use Rattle.command_room.specs.Room.{memory_words_of}
use Rattle.locked_queue.proofs.tests.finish.Given as goal

abbrev pub invariant-loop-room : goal.invariant-loop-room
invariant-loop-room l = record {
  settings : l.room.settings ≡ l.initial.room.settings;
  number : l.room.room ≡ l.initial.room.room;
  state : l.room.cells.state ≡ l.initial.room.cells.state;
  under : l.room.under_way ≡ l.initial.room.under_way;
  held : memory_words_of l.room ≡ memory_words_of l.initial.room;
}

abbrev pub decreases-loop-room : goal.decreases-loop-room
decreases-loop-room l = length l.room.plan.stores
