use Rattle.std.proofs.Common.{refl}
use Rattle.epoch_word.specs.declared.stage.EpochStage.TheVariants.{InMemory}
use Rattle.rooms.specs.declared.room.Room.TheVariants.{Super}
use Rattle.room_in_hand.specs.InHand.{writing_epoch}
use Rattle.coordinator.proofs.Ended.{may_go, few_rooms, epoch_home, ended_epoch}
use Rattle.coordinator.proofs.closer.end_epoch.Goals as goal

pub with-learnt-requires : goal.with-learnt-requires
with-learnt-requires g c = let v = g.P.Post.view c.args.post.now in let was = c.requires.closer in
    few_rooms _ v was (writing_epoch InMemory) (Super c.args.room) was.closes.hand (epoch_home _ v was c.args.room was.closes.hand)

pub unlock-requires : goal.unlock-requires
unlock-requires g c = let v = g.P.Post.view c.args.post.now in let was = c.requires.closer in
    record { may = may_go _ v was (writing_epoch InMemory) (Super c.args.room) was.closes.hand (epoch_home _ v was c.args.room was.closes.hand) }

pub returns-clause-did : goal.returns-clause-did
returns-clause-did g c = let v = g.P.Post.view c.args.post.now in
    ended_epoch _ v c.requires.closer c.args.room refl (g.P.Post.told c.args.post.now) (g.P.Post.told c.unlock.new.self) (g.P.Post.view c.unlock.new.self) c.unlock.ensures.done _ c.with-learnt.ensures
