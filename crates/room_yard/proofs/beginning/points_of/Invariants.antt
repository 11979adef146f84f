use Rattle.std.proofs.Common.{◌≡◌, take}
use Rattle.std.specs.List.{flat_map}
use Rattle.room_yard.specs.World.{points_at}
use Rattle.room_yard.proofs.beginning.points_of.Given as goal

abbrev pub invariant-loop-room : goal.invariant-loop-room
invariant-loop-room l = l.points ≡ flat_map points_at (take l.room-index l.fn.rooms)
