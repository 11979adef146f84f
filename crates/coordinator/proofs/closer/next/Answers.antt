use Rattle.room_in_hand.specs.InHand.{flushing, flushed}
use Rattle.coordinator.specs.declared.hand.Hand.TheVariants.{Flushing, Flushed}
use Rattle.coordinator.proofs.Alone.{some_holder, in_hand_as, may_take, took, wrote_back, fenced_in, closer_as, does_as}
use Rattle.coordinator.proofs.closer.next.Goals as goal

pub lock_next-requires : goal.lock_next-requires
lock_next-requires g c = record { may = may_take (record { settings = c.args.settings; learnt = c.args.learnt; hand = c.args.hand }) (g.P.Post.view c.args.post.now) c.requires.closer c.in-Empty.is }

pub write_back-requires : goal.write_back-requires
write_back-requires g c = let v = g.P.Post.view c.args.post.now in some_holder flushing v c.in-Flushing.room (in_hand_as (record { settings = c.args.settings; learnt = c.args.learnt; hand = c.args.hand }) v (Flushing c.in-Flushing.room) c.requires.closer c.in-Flushing.is)

pub bring_in-requires : goal.bring_in-requires
bring_in-requires g c = let v = g.P.Post.view c.args.post.now in some_holder flushed v c.in-Flushed.room (in_hand_as (record { settings = c.args.settings; learnt = c.args.learnt; hand = c.args.hand }) v (Flushed c.in-Flushed.room) c.requires.closer c.in-Flushed.is)

pub end_room-requires : goal.end_room-requires
end_room-requires g c = record { closer = closer_as (record { settings = c.args.settings; learnt = c.args.learnt; hand = c.args.hand }) (g.P.Post.view c.args.post.now) _ c.requires.closer c.in-Shut.is }

pub next_of_epoch-requires : goal.next_of_epoch-requires
next_of_epoch-requires g c = record { closer = closer_as (record { settings = c.args.settings; learnt = c.args.learnt; hand = c.args.hand }) (g.P.Post.view c.args.post.now) _ c.requires.closer c.in-Epoch.is; told = c.is_off-off.ensures.told }

pub returns-in-Empty-clause-did : goal.returns-in-Empty-clause-did
returns-in-Empty-clause-did g c = took (record { settings = c.args.settings; learnt = c.args.learnt; hand = c.args.hand }) (g.P.Post.view c.args.post.now) (g.P.Post.told c.args.post.now) (g.P.Post.told c.lock_next.new.post) (g.P.Post.view c.lock_next.new.post) c.lock_next.result c.requires.closer c.in-Empty.is c.lock_next.ensures.taken

pub returns-in-Flushing-clause-did : goal.returns-in-Flushing-clause-did
returns-in-Flushing-clause-did g c = wrote_back (record { settings = c.args.settings; learnt = c.args.learnt; hand = c.args.hand }) (g.P.Post.view c.args.post.now) (g.P.Post.told c.args.post.now) c.requires.closer c.in-Flushing.room c.write_back.result c.in-Flushing.is c.write_back.ensures.is c.write_back.ensures.fewer c.write_back.ensures.kept

pub returns-in-Flushed-clause-did : goal.returns-in-Flushed-clause-did
returns-in-Flushed-clause-did g c = fenced_in (record { settings = c.args.settings; learnt = c.args.learnt; hand = c.args.hand }) (g.P.Post.view c.args.post.now) (g.P.Post.told c.args.post.now) c.requires.closer c.in-Flushed.room c.bring_in.result c.in-Flushed.is c.bring_in.ensures.is c.bring_in.ensures.kept

pub returns-in-Shut-clause-did : goal.returns-in-Shut-clause-did
returns-in-Shut-clause-did g c = does_as (record { settings = c.args.settings; learnt = c.args.learnt; hand = c.args.hand }) _ (g.P.Post.view c.args.post.now) (g.P.Post.view c.end_room.new.post) (g.P.Post.told c.args.post.now) (g.P.Post.told c.end_room.new.post) c.end_room.result c.in-Shut.is c.end_room.ensures.did

pub returns-in-Epoch-clause-did : goal.returns-in-Epoch-clause-did
returns-in-Epoch-clause-did g c = does_as (record { settings = c.args.settings; learnt = c.args.learnt; hand = c.args.hand }) _ (g.P.Post.view c.args.post.now) (g.P.Post.view c.next_of_epoch.new.post) (g.P.Post.told c.args.post.now) (g.P.Post.told c.next_of_epoch.new.post) c.next_of_epoch.result c.in-Epoch.is c.next_of_epoch.ensures.did
