-- What a thread that saw the power off may give up.
use Rattle.std.specs.Prelude.{◌≡◌, Some}
use Rattle.rooms.specs.declared.room.Room.{Room}
use Rattle.yard_model.specs.declared.view.View.{View}
use Rattle.yard_model.specs.declared.view.Grip.{Grip}
use Rattle.yard_model.specs.Conditions.{MayRetreat}
use Rattle.coordinator.specs.Closers.{MayGiveBack}
use Rattle.worker_model.specs.declared.hand.Hand.{Hand}
use Rattle.worker_model.specs.declared.hand.Hand.TheVariants.{Empty, Commands, Drawn, NoItem, Own, Closes, Refused}

-- the room that the view holds may be given up as this one
pub record MayGiveRoom (x : Room) (v : View) : Type 0 where
  pub grip : Grip
  pub held : v.grip ≡ Some grip
  pub may : MayRetreat v grip x

-- what is in hand may be given up
abbrev pub MayGiveHand : Hand → View → Type 0
MayGiveHand Empty v = Unit {0}
MayGiveHand (Commands reply x) v = MayGiveRoom x v
MayGiveHand (Drawn x) v = MayGiveRoom x v
MayGiveHand (NoItem x) v = MayGiveRoom x v
MayGiveHand (Own x) v = MayGiveRoom x v
MayGiveHand (Closes closer) v = MayGiveBack closer v
MayGiveHand (Refused x) v = MayGiveRoom x v
