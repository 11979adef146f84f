use Rattle.std.proofs.Common.{◌≡◌, map, take}
use Rattle.rooms.specs.Rooms.{bank_of}
use Rattle.room_yard.proofs.beginning.write_backs_of.Given as goal

abbrev pub invariant-loop-room : goal.invariant-loop-room
invariant-loop-room l = l.counts ≡ map (λ x. (bank_of x).write_backs) (take l.room-index l.fn.rooms)
