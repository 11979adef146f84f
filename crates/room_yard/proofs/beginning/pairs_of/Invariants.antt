use Rattle.std.proofs.Common.{◌≡◌, take}
use Rattle.std.specs.List.{flat_map}
use Rattle.room_yard.specs.World.{pairs_at}
use Rattle.room_yard.proofs.beginning.pairs_of.Given as goal

abbrev pub invariant-loop-room : goal.invariant-loop-room
invariant-loop-room l = l.pairs ≡ flat_map pairs_at (take l.room-index l.fn.rooms)
