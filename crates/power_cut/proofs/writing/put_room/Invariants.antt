use Rattle.std.proofs.Common.{◌≡◌, ◌++◌, drop}
use Rattle.power_cut.specs.Bytes.{room_bytes}
use Rattle.power_cut.proofs.writing.put_room.Given as goal

abbrev pub invariant-loop-line : goal.invariant-loop-line
invariant-loop-line l = l.bytes.items ++ room_bytes (drop l.line-index l.line-items) ≡ l.fn.bytes.items ++ room_bytes l.line-items
