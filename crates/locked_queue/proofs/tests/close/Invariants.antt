use Rattle.std.proofs.Common.{◌≡◌, ◌<◌, true, false, None}
use Rattle.line_memory.specs.Line.{unasked}
use Rattle.incll_var.specs.declared.state.CellState.TheVariants.{Closing}
use Rattle.command_room.specs.Room.{memory_words_of}
use Rattle.locked_queue.proofs.tests.close.Given as goal

abbrev pub invariant-loop-more : goal.invariant-loop-more
invariant-loop-more l = record {
  state : l.room.cells.state ≡ Closing l.epoch;
  settings : l.room.settings ≡ l.initial.room.settings;
  number : l.room.room ≡ l.initial.room.room;
  idle : l.room.under_way ≡ None;
  held : memory_words_of l.room ≡ memory_words_of l.initial.room;
  some : l.more ≡ true → 0 < unasked l.room.cells.bank.lines;
  none : l.more ≡ false → unasked l.room.cells.bank.lines ≡ 0;
}

abbrev pub decreases-loop-more : goal.decreases-loop-more
decreases-loop-more l = unasked l.room.cells.bank.lines
