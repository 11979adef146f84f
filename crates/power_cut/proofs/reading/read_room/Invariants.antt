use Rattle.std.proofs.Common.{◌≡◌, ◌+◌, ◌*◌, ◌++◌, length}
use Rattle.std.specs.List.{All}
use Rattle.power_cut.specs.Image.{IsLineOfWords}
use Rattle.power_cut.specs.Bytes.{room_bytes}
use Rattle.power_cut.proofs.reading.read_room.Given as goal

abbrev pub invariant-loop-line : goal.invariant-loop-line
invariant-loop-line l = record {
  many : length l.room.items ≡ l._line;
  words : All IsLineOfWords l.room.items;
  left : length l.rest + 64 * l._line ≡ 64 * l.lines;
  spelled : l.bytes ≡ room_bytes l.room.items ++ l.rest;
}
