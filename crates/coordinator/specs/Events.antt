-- What the events of a closer leave in hand.
use Rattle.std.specs.Prelude.{◌≡◌, ℕ, Bool, true, false, Option}
use Rattle.rooms.specs.declared.room.Room.{Room}
use Rattle.rooms.specs.declared.room.Room.TheVariants.{Super}
use Rattle.seq_object.specs.declared.settings.Settings.{Settings}
use Rattle.yard_model.specs.declared.view.Phase.TheVariants.{Closing}
use Rattle.yard_model.specs.declared.view.View.{View}
use Rattle.yard_model.specs.Conditions.{MayLock}
use Rattle.room_yard.specs.Told.{Told}
use Rattle.room_yard.specs.Calls.{MayGiveUp}
use Rattle.room_yard.specs.Answers.{Locked}
use Rattle.coordinator.specs.declared.hand.Hand.{Hand}
use Rattle.coordinator.specs.declared.hand.Hand.TheVariants.{Empty, Flushing, Flushed, Shut, Epoch, AllDone, Over}
use Rattle.coordinator.specs.declared.learnt.Learnt.{Learnt}
use Rattle.coordinator.specs.Closers.{HandIs}
use Rattle.coordinator.specs.Steps.{taken_hand}

-- a thread that closes may lock the next room
pub record MayTakeNext (v : View) (r : ℕ) : Type 0 where
  pub may : MayLock v r
  pub closes : v.phase ≡ Closing

-- the next room was locked, and is in hand
pub record HasTaken (v : View) (t : Option Told) (r : ℕ) (hand : Hand) (w : View) (u : Option Told) : Type 0 where
  pub room : Room
  pub locked : Locked v t r room w u
  pub hand_is : hand ≡ taken_hand room
  pub holds : (s : Settings) (l : Learnt) → HandIs s l hand w

-- an event is left that is not the release
abbrev pub HasEvent : Hand → Type 0
HasEvent Empty = Unit {0}
HasEvent (Flushing x) = Unit {0}
HasEvent (Flushed x) = Unit {0}
HasEvent (Shut x) = Unit {0}
HasEvent (Epoch stage x) = Unit {0}
HasEvent AllDone = ⊥
HasEvent Over = ⊥

-- whether all rooms are done
abbrev pub are_all_done : Hand → Bool
are_all_done Empty = false
are_all_done (Flushing x) = false
are_all_done (Flushed x) = false
are_all_done (Shut x) = false
are_all_done (Epoch stage x) = false
are_all_done AllDone = true
are_all_done Over = false

-- what is in hand may be given up
abbrev pub MayGiveHand : Hand → View → ℕ → Type 0
MayGiveHand Empty v r = Unit {0}
MayGiveHand (Flushing x) v r = MayGiveUp v r x
MayGiveHand (Flushed x) v r = MayGiveUp v r x
MayGiveHand (Shut x) v r = MayGiveUp v r x
MayGiveHand (Epoch stage x) v r = MayGiveUp v r (Super x)
MayGiveHand AllDone v r = Unit {0}
MayGiveHand Over v r = ⊥
