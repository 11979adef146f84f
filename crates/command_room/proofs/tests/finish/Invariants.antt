use Rattle.std.proofs.Common.{◌≡◌, length}
use Rattle.command_room.specs.Room.{IsCommandRoom}
use Rattle.command_room.proofs.tests.finish.Given as goal

abbrev pub invariant-loop-rt : goal.invariant-loop-rt
invariant-loop-rt g l = record {
  room : IsCommandRoom l.room;
  under : l.room.under_way ≡ l.initial.room.under_way;
}

abbrev pub decreases-loop-rt : goal.decreases-loop-rt
decreases-loop-rt g l = length l.room.plan.stores
