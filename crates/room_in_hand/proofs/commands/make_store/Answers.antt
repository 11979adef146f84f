use Rattle.std.proofs.Common.{◌<◌, subst}
use Rattle.rooms.specs.declared.room.Room.{Room}
use Rattle.room_in_hand.specs.InHand.{working, writing_point, IsInHand}
use Rattle.room_in_hand.specs.Working.{stores_left as left_in}
use Rattle.room_in_hand.proofs.Stores.{map_stepped, queue_stepped, point_stepped_on}
use Rattle.room_in_hand.proofs.commands.make_store.Goals as goal

pub returns-in-Map-clause-kept : goal.returns-in-Map-clause-kept
returns-in-Map-clause-kept c = λ k under was. let e = c.step.ensures in
    map_stepped c.in-Map.map c.step.new.self (subst (λ (x : Room). 0 < left_in x) c.in-Map.is c.requires.left) e.is e.contents e.in_memory e.whole k under
    (subst (λ (x : Room). IsInHand (working under) k x) c.in-Map.is was)

pub returns-in-Queue-clause-kept : goal.returns-in-Queue-clause-kept
returns-in-Queue-clause-kept c = λ k under was. let e = c.step-in-Queue.ensures in
    queue_stepped c.in-Queue.queue c.step-in-Queue.new.self (subst (λ (x : Room). 0 < left_in x) c.in-Queue.is c.requires.left) e.is e.contents e.in_memory e.whole k under
    (subst (λ (x : Room). IsInHand (working under) k x) c.in-Queue.is was)

pub returns-in-Thread-clause-point_kept : goal.returns-in-Thread-clause-point_kept
returns-in-Thread-clause-point_kept c = λ k point end was. let e = c.step-in-Thread.ensures in
    point_stepped_on c.in-Thread.thread c.step-in-Thread.new.self (subst (λ (x : Room). 0 < left_in x) c.in-Thread.is c.requires.left) e.is e.state e.behind e.in_memory e.room k point end
    (subst (λ (x : Room). IsInHand (writing_point point end) k x) c.in-Thread.is was)
