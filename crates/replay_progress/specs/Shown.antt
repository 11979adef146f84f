-- What the workers of a replay have in hand, as its progress has it.
use Rattle.std.specs.Prelude.{◌≡◌, ℕ, ◌<◌, ◌≤◌, ◌+◌, ◌*◌, ◌^◌, false, length, Option, Some, None, slice_get}
use Rattle.seq_object.specs.Sizes.{thread_room}
use Rattle.epoch_word.specs.declared.stage.EpochStage.{EpochStage}
use Rattle.epoch_word.specs.declared.stage.EpochStage.TheVariants.{Before, Stored, AskedFor, InMemory}
use Rattle.restart_point.specs.declared.thread_end.ThreadEnd.{ThreadEnd}
use Rattle.restart_point.specs.declared.thread_end.ThreadEnd.TheVariants.{Ready}
use Rattle.rooms.specs.declared.room.Room.{Room}
use Rattle.rooms.specs.declared.room.Room.TheVariants.{Super}
use Rattle.rooms.specs.Rooms.{bank_of, end_of}
use Rattle.yard_model.specs.declared.view.Phase.{Phase}
use Rattle.yard_model.specs.declared.view.Phase.TheVariants.{Standing, Running, Closing}
use Rattle.yard_model.specs.declared.view.Grip.{Grip}
use Rattle.yard_model.specs.World.{Home}
use Rattle.yard_model.specs.Beginnings.{sizes_at, write_backs_at}
use Rattle.yard_model.specs.WriteBacks.{rise_of}
use Rattle.room_in_hand.specs.Working.{stores_left}
use Rattle.coordinator.specs.declared.hand.Hand.{Hand as InClosing}
use Rattle.coordinator.specs.declared.hand.Hand.TheVariants.{Empty as NextRoom, Flushing, Flushed, Shut, Epoch, AllDone, Over}
use Rattle.plain_yard.specs.Shown.{view_at}
use Rattle.worker_model.specs.declared.hand.Hand.{Hand}
use Rattle.worker_model.specs.declared.hand.Hand.TheVariants.{Empty, Commands, Drawn, NoItem, Own, Closes, Refused}
use Rattle.worker_model.specs.Workers.{WorkerState}
use Rattle.replay_model.specs.Replays.{ReplayState}
use Rattle.rounds.specs.Progress.{Activity, AtPoint, EmptyHanded, OnCommand, OnDrawn, OnEmptyQueue, OnOwnRoom, OnClosing, Progress}
use Rattle.yard_progress.specs.Shown.{progress_of, GoesOn}

-- the stage of the super room: its lock, the store of the next epoch, and its fence each bring it one further
abbrev pub stage_of_epoch : EpochStage → ℕ
stage_of_epoch Before = 1
stage_of_epoch Stored = 2
stage_of_epoch AskedFor = 2
stage_of_epoch InMemory = 3

-- the stage of the next room of a closing
abbrev pub stage_of : InClosing → ℕ
stage_of NextRoom = 0
stage_of (Flushing x) = 1
stage_of (Flushed x) = 1
stage_of (Shut x) = 2
stage_of (Epoch stage x) = stage_of_epoch stage
stage_of AllDone = 0
stage_of Over = 0

-- with nothing in hand; a thread that closes has its closer in hand while the power is on
abbrev pub with_nothing : Phase → Activity
with_nothing Standing = AtPoint
with_nothing Running = EmptyHanded
with_nothing Closing = OnClosing 0 0

-- what a worker of this phase is about; a command is refused memory only where the run ends
abbrev pub activity_of : Hand → Phase → Activity
activity_of Empty phase = with_nothing phase
activity_of (Commands reply x) phase = OnCommand (stores_left x)
activity_of (Drawn x) phase = OnDrawn
activity_of (NoItem x) phase = OnEmptyQueue
activity_of (Own x) phase = OnOwnRoom (stores_left x)
activity_of (Closes closer) phase = OnClosing closer.learnt.rooms (stage_of closer.hand)
activity_of (Refused x) phase = OnDrawn

-- the same of a thread of a replay, and the end that its worker told last; of no thread it is that of a room that is no thread's
abbrev pub activity_in : Option WorkerState → Phase → Activity
activity_in None phase = AtPoint
activity_in (Some c) phase = activity_of c.hand phase

abbrev pub activities_of : ReplayState → ℕ → Activity
activities_of s i = activity_in (slice_get s.workers i) (view_at s.yard i).phase

abbrev pub end_told : Option WorkerState → ThreadEnd
end_told None = Ready
end_told (Some c) = c.end

abbrev pub ends_of : ReplayState → ℕ → ThreadEnd
ends_of s i = end_told (slice_get s.workers i)

-- the room in the hand of a closing
abbrev pub room_closing : InClosing → Option Room
room_closing NextRoom = None
room_closing (Flushing x) = Some x
room_closing (Flushed x) = Some x
room_closing (Shut x) = Some x
room_closing (Epoch stage x) = Some (Super x)
room_closing AllDone = None
room_closing Over = None

-- the room in a worker's hand
abbrev pub room_in : Hand → Option Room
room_in Empty = None
room_in (Commands reply x) = Some x
room_in (Drawn x) = Some x
room_in (NoItem x) = Some x
room_in (Own x) = Some x
room_in (Closes closer) = room_closing closer.hand
room_in (Refused x) = Some x

-- these are the write-backs that the rooms counted, at home and in hand
pub record CountsWriteBacks (s : ReplayState) (counts : ℕ → ℕ) : Type 0 where
  pub home : (r : ℕ) (x : Room) → Home s.yard.told.world r x → counts r ≡ (bank_of x).write_backs
  pub in_hand : (i : ℕ) (c : WorkerState) (x : Room) (g : Grip) → slice_get s.workers i ≡ Some c → room_in c.hand ≡ Some x
      → (view_at s.yard i).grip ≡ Some g → counts g.room ≡ (bank_of x).write_backs

-- what a replay keeps while no thread saw the power off
pub record GoesOnRight (s : ReplayState) : Type 0 where
  pub on : (i : ℕ) → i < length s.workers → (view_at s.yard i).saw_off ≡ false
  -- a thread's room at home has the end that its worker told last
  pub told : (i : ℕ) (c : WorkerState) (x : Room) → slice_get s.workers i ≡ Some c
      → Home s.yard.told.world (thread_room (sizes_at s.yard.beginning) i) x → c.end ≡ end_of x
  -- and so has its room in a hand
  pub told_in_hand : (i j : ℕ) (c d : WorkerState) (x : Room) (g : Grip) → slice_get s.workers i ≡ Some c → slice_get s.workers j ≡ Some d
      → room_in d.hand ≡ Some x → (view_at s.yard j).grip ≡ Some g → g.room ≡ thread_room (sizes_at s.yard.beginning) i → c.end ≡ end_of x
  -- the rooms' counts began far from their type's end
  pub early : (r : ℕ) → write_backs_at s.yard.beginning r < 2 ^ 63
  pub goes_on : GoesOn s.yard.beginning s.yard.told.world s.yard.told.history s.yard.told.checkpoints
  pub counts : ℕ → ℕ
  pub are_counts : CountsWriteBacks s counts
  pub few : rise_of s.yard.beginning counts
      ≤ 4 * length s.yard.told.history + (s.yard.beginning.settings.threads + 1) * (length s.yard.told.checkpoints + 1)

-- the progress of a replay that counted so many write-backs
abbrev pub shown_by : ReplayState → ℕ → Progress
shown_by s n = progress_of s.yard.beginning s.yard.told.world s.yard.told.history s.yard.told.checkpoints (activities_of s) (ends_of s) n
