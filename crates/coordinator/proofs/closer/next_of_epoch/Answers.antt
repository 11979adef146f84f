use Rattle.std.proofs.Common.{subst}
use Rattle.epoch_word.specs.declared.stage.EpochStage.{EpochStage}
use Rattle.epoch_word.specs.declared.stage.EpochStage.TheVariants.{Before, Stored, AskedFor}
use Rattle.rooms.specs.declared.room.Room.TheVariants.{Super}
use Rattle.room_in_hand.specs.InHand.{writing_epoch}
use Rattle.coordinator.specs.Closers.{Holds}
use Rattle.coordinator.proofs.Alone.{some_holder}
use Rattle.coordinator.proofs.closer.next_of_epoch.Goals as goal

pub store-requires : goal.store-requires
store-requires g c = let v = g.P.Post.view c.args.post.now in
    some_holder (writing_epoch Before) v (Super c.args.room) (subst (λ (s : EpochStage). Holds (writing_epoch s) v (Super c.args.room)) c.in-Before.is c.requires.closer.closes.hand)

pub ask-requires : goal.ask-requires
ask-requires g c = let v = g.P.Post.view c.args.post.now in
    some_holder (writing_epoch Stored) v (Super c.args.room) (subst (λ (s : EpochStage). Holds (writing_epoch s) v (Super c.args.room)) c.in-Stored.is c.requires.closer.closes.hand)

pub fence-requires : goal.fence-requires
fence-requires g c = let v = g.P.Post.view c.args.post.now in
    some_holder (writing_epoch AskedFor) v (Super c.args.room) (subst (λ (s : EpochStage). Holds (writing_epoch s) v (Super c.args.room)) c.in-AskedFor.is c.requires.closer.closes.hand)
