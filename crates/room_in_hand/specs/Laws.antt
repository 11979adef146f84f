-- Laws on rooms in hand: what lock gives is in hand, and what is in hand may be given back.
use Rattle.std.specs.Prelude.{◌≡◌, ℕ, ◌+◌, ◌<◌, ◌≤◌, ◌^◌, ◌↔◌, true, false, Option, Some, None}
use Rattle.seq_object.specs.declared.command.Command.{Command}
use Rattle.seq_object.specs.declared.command.Command.TheVariants.{Take}
use Rattle.seq_object.specs.declared.history.Entry.{Entry}
use Rattle.seq_object.specs.Sizes.{thread_room}
use Rattle.line_memory.specs.Line.{BankState}
use Rattle.epoch_word.specs.declared.stage.EpochStage.TheVariants.{Before}
use Rattle.restart_point.specs.declared.thread_end.ThreadEnd.{ThreadEnd}
use Rattle.restart_point.specs.declared.thread_end.ThreadEnd.TheVariants.{Waits, Ended}
use Rattle.rooms.specs.declared.room.Room.{Room}
use Rattle.rooms.specs.declared.room.Room.TheVariants.{Super}
use Rattle.rooms.specs.Rooms.{IsWhole, HasCells, bank_of}
use Rattle.yard_model.specs.declared.view.Phase.TheVariants.{Running, Closing}
use Rattle.yard_model.specs.declared.view.View.{View}
use Rattle.yard_model.specs.declared.view.Grip.{Grip}
use Rattle.yard_model.specs.Entries.{placed}
use Rattle.yard_model.specs.Knows.{sizes_known, point_of, next_of}
use Rattle.yard_model.specs.Views.{grip_on, gripped, drew, with_drawn}
use Rattle.yard_model.specs.Conditions.{IsGiven, MayUnlock, MayRetreat}
use Rattle.room_in_hand.specs.Known.{knows, with_noted}
use Rattle.room_in_hand.specs.InHand.{RoomUse, resting, flushing, flushed, shut, writing_epoch, working, writing_point, IsInHand}
use Rattle.room_in_hand.specs.Working.{stores_left}

-- what is known of a room by its type: it is whole, and its write-backs are a number of 64 bits
pub record IsOfItsType (x : Room) : Type 0 where
  pub whole : IsWhole x
  pub counted : (bank_of x).write_backs < 2 ^ 64

-- a room of cells that lock gives rests in hand
abbrev pub GivenRestsLaw : Type 0
GivenRestsLaw = (v : View) (r : ℕ) (x : Room) (covered : ℕ) → HasCells x → IsOfItsType x → IsGiven v r x covered
    → IsInHand resting (knows (gripped v r x covered) (grip_on v r x covered)) x

-- the super room that lock gives has no write begun
abbrev pub GivenEpochLaw : Type 0
GivenEpochLaw = (v : View) (r : ℕ) (bank : BankState) (covered : ℕ) → IsOfItsType (Super bank) → v.ran + 1 < 2 ^ 32 → IsGiven v r (Super bank) covered
    → IsInHand (writing_epoch Before) (knows (gripped v r (Super bank) covered) (grip_on v r (Super bank) covered)) (Super bank)

-- a thread that closes may give a room back that is in memory, and the super room with the next epoch in memory
abbrev pub MayGoHomeLaw : RoomUse → Type 0
MayGoHomeLaw role = (v : View) (g : Grip) (x : Room) → v.saw_off ≡ false → v.phase ≡ Closing → v.grip ≡ Some g → IsInHand role (knows v g) x → MayUnlock v g x

-- a thread that closes, and saw the power off, may give the room up whatever it is used for in the closing
abbrev pub IsOfClosing : RoomUse → Type 0
IsOfClosing resting = Unit {0}
IsOfClosing flushing = Unit {0}
IsOfClosing flushed = Unit {0}
IsOfClosing shut = Unit {0}
IsOfClosing (writing_epoch stage) = Unit {0}
IsOfClosing (working under) = ⊥
IsOfClosing (writing_point point end) = ⊥

abbrev pub MayBeGivenUpLaw : Type 0
MayBeGivenUpLaw = (role : RoomUse) (v : View) (g : Grip) (x : Room) → IsOfClosing role → v.saw_off ≡ true → v.phase ≡ Closing → v.grip ≡ Some g → IsInHand role (knows v g) x → MayRetreat v g x

-- A THREAD THAT RUNS.

-- a room of commands that rests may go home
abbrev pub RestsGoesHomeLaw : Type 0
RestsGoesHomeLaw = (v : View) (g : Grip) (x : Room) → v.saw_off ≡ false → v.phase ≡ Running → v.grip ≡ Some g → g.room ≤ (sizes_known v).shards
    → IsInHand resting (knows v g) x → MayUnlock v g x

-- an end belongs to a thread whose next command this is
pub record IsEndOf (next : Option Command) (end : ThreadEnd) : Type 0 where
  pub ended : (end ≡ Ended) ↔ (next ≡ None)
  pub waits : end ≡ Waits → next ≡ Some Take

-- the thread's own room may go home once its restart point is written
abbrev pub PointGoesHomeLaw : Type 0
PointGoesHomeLaw = (v : View) (g : Grip) (x : Room) (end : ThreadEnd) → v.saw_off ≡ false → v.phase ≡ Running → v.grip ≡ Some g → g.room ≡ thread_room (sizes_known v) v.thread
    → IsEndOf (next_of v) end → IsInHand (writing_point (point_of v) end) (knows v g) x → stores_left x ≡ 0 → MayUnlock v g x

-- what a room is used for fits its thread: a command under way is its next one, and no entry is drawn
abbrev pub IsOfRunning : RoomUse → View → Grip → Type 0
IsOfRunning resting v g = Unit {0}
IsOfRunning flushing v g = ⊥
IsOfRunning flushed v g = ⊥
IsOfRunning shut v g = ⊥
IsOfRunning (writing_epoch stage) v g = ⊥
IsOfRunning (working under) v g = (next_of v ≡ Some under.command) × (g.drawn ≡ None)
IsOfRunning (writing_point point end) v g = Unit {0}

-- where the power was seen off, it may give the room up whatever is under way in it
abbrev pub RunnerGivesUpLaw : Type 0
RunnerGivesUpLaw = (role : RoomUse) (v : View) (g : Grip) (x : Room) → IsOfRunning role v g → v.saw_off ≡ true → v.phase ≡ Running → v.grip ≡ Some g
    → IsInHand role (knows v g) x → MayRetreat v g x

-- with an entry drawn a thread knows of its room what it knew, and the entry noted
abbrev pub DrawnKnowsLaw : Type 0
DrawnKnowsLaw = (v : View) (g : Grip) (place : ℕ) (e : Entry) → g.drawn ≡ None
    → knows (drew v g place e) (with_drawn g (placed place e)) ≡ with_noted (knows v g) (placed place e)
