use Rattle.std.proofs.Common.{◌≡◌, ◌<◌, true, false}
use Rattle.line_memory.specs.Line.{unasked}
use Rattle.command_room.specs.Room.{IsCommandRoom}
use Rattle.command_room.proofs.tests.close.Given as goal

abbrev pub invariant-loop-more : goal.invariant-loop-more
invariant-loop-more g l = record {
  room : IsCommandRoom l.room;
  some : l.more ≡ true → 0 < unasked l.room.cells.bank.lines;
  none : l.more ≡ false → unasked l.room.cells.bank.lines ≡ 0;
}

abbrev pub decreases-loop-more : goal.decreases-loop-more
decreases-loop-more g l = unasked l.room.cells.bank.lines
