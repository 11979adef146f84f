-- A closer and its thread's view: what holds of both between two steps.
use Rattle.std.specs.Prelude.{◌≡◌, ℕ, ◌+◌, ◌-◌, ◌<◌, ◌==◌, Bool, true, false, Some, None, if◌then◌else◌}
use Rattle.seq_object.specs.declared.settings.Settings.{Settings}
use Rattle.seq_object.specs.declared.sizes.Sizes.{Sizes}
use Rattle.seq_object.specs.Sizes.{sizes_of, AreValid, thread_room, super_room, room_count, line_count}
use Rattle.seq_object.specs.History.{total}
use Rattle.epoch_word.specs.declared.stage.EpochStage.{EpochStage}
use Rattle.epoch_word.specs.declared.stage.EpochStage.TheVariants.{Before, Stored, AskedFor, InMemory}
use Rattle.rooms.specs.declared.room.Room.{Room}
use Rattle.rooms.specs.declared.room.Room.TheVariants.{Super}
use Rattle.rooms.specs.Rooms.{lines_unasked}
use Rattle.yard_model.specs.declared.view.Phase.TheVariants.{Closing}
use Rattle.yard_model.specs.declared.view.View.{View}
use Rattle.yard_model.specs.declared.view.Grip.{Grip}
use Rattle.yard_model.specs.Views.{nothing_closed}
use Rattle.room_in_hand.specs.Known.{knows}
use Rattle.room_in_hand.specs.InHand.{RoomUse, flushing, flushed, shut, writing_epoch, IsInHand}
use Rattle.coordinator.specs.declared.hand.Hand.{Hand}
use Rattle.coordinator.specs.declared.hand.Hand.TheVariants.{Empty, Flushing, Flushed, Shut, Epoch, AllDone, Over}
use Rattle.coordinator.specs.declared.learnt.Learnt.{Learnt}
use Rattle.coordinator.specs.Learnts.{nothing_learnt, HasLearntAs}

-- what a contract sees of a closer
pub record CloserState : Type 0 where
  pub settings : Settings
  pub learnt : Learnt
  pub hand : Hand

-- a closing of which nothing is done
abbrev pub new_closer : Settings → CloserState
new_closer s = record { settings = s; learnt = nothing_learnt; hand = Empty }

abbrev pub with_hand : CloserState → Hand → CloserState
with_hand c hand = record c { hand = hand }

-- THE ROOM IN HAND.

-- the view holds this room, the next one in order, and it is used so
pub record Holds (role : RoomUse) (v : View) (x : Room) : Type 0 where
  pub grip : Grip
  pub held : v.grip ≡ Some grip
  pub next : grip.room ≡ v.closed.rooms
  pub in_hand : IsInHand role (knows v grip) x

-- no room is in hand, and some are not done
pub record HoldsNone (s : Settings) (l : Learnt) (v : View) : Type 0 where
  pub none : v.grip ≡ None
  pub left : l.rooms < room_count (sizes_of s)

-- no room is in hand, and all are done
pub record HasAllDone (s : Settings) (l : Learnt) (v : View) : Type 0 where
  pub none : v.grip ≡ None
  pub all : l.rooms ≡ room_count (sizes_of s)

abbrev pub HandIs : Settings → Learnt → Hand → View → Type 0
HandIs s l Empty v = HoldsNone s l v
HandIs s l (Flushing x) v = Holds flushing v x
HandIs s l (Flushed x) v = Holds flushed v x
HandIs s l (Shut x) v = Holds shut v x
HandIs s l (Epoch stage x) v = Holds (writing_epoch stage) v (Super x)
HandIs s l AllDone v = HasAllDone s l v
HandIs s l Over v = ⊥

-- THE CLOSER.

-- a closer of a thread that closes: whether the power was seen off or not
pub record Closes (c : CloserState) (v : View) : Type 0 where
  pub phase : v.phase ≡ Closing
  -- the thread's own room was written in this epoch
  pub wrote : v.wrote ≡ true
  pub settings : c.settings ≡ v.beginning.settings
  pub learnt : HasLearntAs c.settings v.closed c.learnt
  -- once a room is done its type has told that the sizes are valid
  pub sizes : 0 < c.learnt.rooms → AreValid (sizes_of c.settings)
  pub hand : HandIs c.settings c.learnt c.hand v

-- a closer that may go on
pub record IsCloser (c : CloserState) (v : View) : Type 0 where
  pub on : v.saw_off ≡ false
  pub closes : Closes c v

-- one that saw the power off, and may give back
pub record MayGiveBack (c : CloserState) (v : View) : Type 0 where
  pub off : v.saw_off ≡ true
  pub closes : Closes c v

-- a thread begins to close: no room is done, and none is held
pub record BeginsToClose (s : Settings) (v : View) : Type 0 where
  pub on : v.saw_off ≡ false
  pub phase : v.phase ≡ Closing
  pub wrote : v.wrote ≡ true
  pub settings : s ≡ v.beginning.settings
  pub none_held : v.grip ≡ None
  pub none_done : v.closed ≡ nothing_closed

-- HOW MANY EVENTS a closer has done. A closing is from the claim to the release, neither counted among the events on rooms.

-- the events on a room, at most: a lock, a write-back of each line, a fence and an unlock; five of the super room
abbrev pub most_on : Sizes → ℕ → ℕ
most_on z r = if r == super_room z then 5 else line_count z r + 3

-- and at least: a lock and an unlock; of the closer's own room, whose line was stored to, a write-back and a fence too
abbrev pub least_on : Sizes → ℕ → ℕ → ℕ
least_on z own r = if r == super_room z then 5 else if r == own then 4 else 2

-- those on the super room by the stage of the write
abbrev pub epoch_events : EpochStage → ℕ
epoch_events Before = 1
epoch_events Stored = 2
epoch_events AskedFor = 3
epoch_events InMemory = 4

-- those on the room in hand, at most, where it has so many lines; the release is one more
abbrev pub most_in_hand : ℕ → Hand → ℕ
most_in_hand lines Empty = 0
most_in_hand lines (Flushing x) = 1 + (lines - lines_unasked x)
most_in_hand lines (Flushed x) = 1 + lines
most_in_hand lines (Shut x) = 2 + lines
most_in_hand lines (Epoch stage x) = epoch_events stage
most_in_hand lines AllDone = 0
most_in_hand lines Over = 1

-- and at least, where it is the closer's own or not
abbrev pub least_in_hand : Bool → Hand → ℕ
least_in_hand own Empty = 0
least_in_hand own (Flushing x) = 1
least_in_hand own (Flushed x) = if own then 2 else 1
least_in_hand own (Shut x) = if own then 3 else 1
least_in_hand own (Epoch stage x) = epoch_events stage
least_in_hand own AllDone = 0
least_in_hand own Over = 1

-- the events of a closer at most
abbrev pub most_events : CloserState → ℕ
most_events c = total (most_on (sizes_of c.settings)) c.learnt.rooms + most_in_hand (line_count (sizes_of c.settings) c.learnt.rooms) c.hand

-- and at least, where this is its thread
abbrev pub least_events : ℕ → CloserState → ℕ
least_events thread c =
    total (least_on (sizes_of c.settings) (thread_room (sizes_of c.settings) thread)) c.learnt.rooms
    + least_in_hand (c.learnt.rooms == thread_room (sizes_of c.settings) thread) c.hand
