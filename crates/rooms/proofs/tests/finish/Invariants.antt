use Rattle.std.proofs.Common.{◌≡◌, length}
use Rattle.rooms.proofs.tests.finish.Given as goal

abbrev pub invariant-loop-room : goal.invariant-loop-room
invariant-loop-room l = l.room.cells.state ≡ l.initial.room.cells.state

abbrev pub decreases-loop-room : goal.decreases-loop-room
decreases-loop-room l = length l.room.plan.stores
