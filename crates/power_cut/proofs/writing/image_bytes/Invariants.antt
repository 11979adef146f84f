use Rattle.std.proofs.Common.{◌≡◌, ◌++◌, drop}
use Rattle.power_cut.specs.Image.{lists_of, sizes_in, rooms_in}
use Rattle.power_cut.specs.Bytes.{rooms_bytes, image_bytes_of}
use Rattle.power_cut.proofs.writing.image_bytes.Given as goal

abbrev pub invariant-loop-room : goal.invariant-loop-room
invariant-loop-room l = l.bytes.items ++ rooms_bytes (lists_of (drop l.room-index l.room-items)) ≡ image_bytes_of (sizes_in l.image) (rooms_in l.image)
