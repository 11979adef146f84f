use Rattle.std.proofs.Common.{◌≡◌, take}
use Rattle.std.specs.List.{flat_map}
use Rattle.room_yard.specs.World.{items_at}
use Rattle.room_yard.proofs.beginning.items_of.Given as goal

abbrev pub invariant-loop-room : goal.invariant-loop-room
invariant-loop-room l = l.items ≡ flat_map items_at (take l.room-index l.fn.rooms)
