use Rattle.std.proofs.Common.{subst}
use Rattle.rooms.specs.declared.room.Room.{Room}
use Rattle.rooms.specs.Rooms.{HasCells}
use Rattle.room_in_hand.specs.InHand.{resting, IsHeldAs}
use Rattle.coordinator.proofs.events.take.Goals as goal

pub begin-requires : goal.begin-requires
begin-requires c = subst (λ (x : Room). HasCells x → IsHeldAs resting x) c.in-Map.is c.requires tt

pub begin-requires-in-Queue : goal.begin-requires-in-Queue
begin-requires-in-Queue c = subst (λ (x : Room). HasCells x → IsHeldAs resting x) c.in-Queue.is c.requires tt

pub begin-requires-in-Thread : goal.begin-requires-in-Thread
begin-requires-in-Thread c = subst (λ (x : Room). HasCells x → IsHeldAs resting x) c.in-Thread.is c.requires tt
