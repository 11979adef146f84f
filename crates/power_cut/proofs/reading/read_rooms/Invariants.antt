use Rattle.std.proofs.Common.{◌≡◌, ℕ, ◌-◌, ◌*◌, ◌<◌, ◌++◌, length}
use Rattle.room_model.specs.Image.{lines_at}
use Rattle.power_cut.specs.Image.{lists_of, HaveWords}
use Rattle.power_cut.specs.Bytes.{rooms_bytes}
use Rattle.power_cut.proofs.Counts.{lines_from}
use Rattle.seq_object.specs.Sizes.{room_count, line_count}
use Rattle.power_cut.proofs.reading.read_rooms.Given as goal

abbrev pub invariant-loop-room : goal.invariant-loop-room
invariant-loop-room l = record {
  many : length l.rooms.items ≡ l.room;
  lines : (r : ℕ) → r < l.room → length (lines_at (lists_of l.rooms.items) r) ≡ line_count l.sizes r;
  words : HaveWords (lists_of l.rooms.items);
  left : length l.rest ≡ 64 * lines_from l.sizes l.room (room_count l.sizes - l.room);
  spelled : l.bytes ≡ rooms_bytes (lists_of l.rooms.items) ++ l.rest;
}
