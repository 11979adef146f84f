-- A worker and its thread's view: what holds of both between two turns.
use Rattle.std.specs.Prelude.{◌≡◌, ◌≢◌, ℕ, ◌+◌, ◌<◌, ◌≤◌, ◌⊎◌, Bool, true, false, List, [], ◌∷◌, ◌++◌, length, Option, Some, None}
use Rattle.seq_object.specs.declared.command.Command.{Command}
use Rattle.seq_object.specs.declared.command.Command.TheVariants.{Take}
use Rattle.seq_object.specs.declared.command.Reply.{Reply}
use Rattle.seq_object.specs.declared.history.Noted.{Noted}
use Rattle.seq_object.specs.declared.settings.Settings.{Settings}
use Rattle.seq_object.specs.Sizes.{IsValid, thread_room}
use Rattle.life_model.specs.declared.life.Mark.{Mark}
use Rattle.life_model.specs.Life.{script_of}
use Rattle.restart_point.specs.declared.thread_end.ThreadEnd.{ThreadEnd}
use Rattle.restart_point.specs.declared.thread_end.ThreadEnd.TheVariants.{Ready}
use Rattle.rooms.specs.declared.room.Room.{Room}
use Rattle.rooms.specs.Rooms.{is_empty_queue}
use Rattle.yard_model.specs.declared.view.Phase.TheVariants.{Standing, Running, Closing}
use Rattle.yard_model.specs.declared.view.View.{View}
use Rattle.yard_model.specs.declared.view.Grip.{Grip}
use Rattle.yard_model.specs.declared.view.OwnMark.{OwnMark}
use Rattle.yard_model.specs.Beginnings.{first_epoch}
use Rattle.yard_model.specs.Knows.{sizes_known, point_of, place_of, next_of, HasCause}
use Rattle.room_yard.specs.Told.{with_own}
use Rattle.room_in_hand.specs.Known.{knows}
use Rattle.room_in_hand.specs.InHand.{RoomUse, resting, working, writing_point, IsInHand}
use Rattle.room_in_hand.specs.Laws.{IsEndOf}
use Rattle.coordinator.specs.Closers.{CloserState, Closes as ClosesFor}
use Rattle.worker_model.specs.declared.hand.Hand.{Hand}
use Rattle.worker_model.specs.declared.hand.Hand.TheVariants.{Empty, Commands, Drawn, NoItem, Own, Closes, Refused}
use Rattle.worker_model.specs.Counts.{least_done_by, most_done_by}

-- what a contract sees of a worker
pub record WorkerState : Type 0 where
  pub thread : ℕ
  pub settings : Settings
  pub commands : List Command  -- its script
  pub position : ℕ  -- the place in it of its next command; it rises when a command's room goes home, or is given up with its entry drawn
  pub quota : ℕ  -- how many commands it may still carry out in the epoch; it falls then too
  pub epoch : ℕ  -- the epoch in which it last ran, 0 where it has not run
  pub end : ThreadEnd  -- the end that it told last
  pub wrote : Bool  -- whether its own room was written in that epoch
  pub found_empty : Bool  -- whether a take found the queue empty in that epoch
  pub passed : Bool  -- whether it passed the gate for its next command
  pub hand : Hand
  pub marks : List Mark  -- the checkpoints that it released, in order
  pub spare : ℕ  -- for how many more there is room
  pub done : ℕ  -- how many events it has done

-- THE ROOM IN HAND, of a thread that runs.

-- the view holds this room, used so
pub record Holds (role : RoomUse) (v : View) (x : Room) (g : Grip) : Type 0 where
  pub phase : v.phase ≡ Running
  pub held : v.grip ≡ Some g
  pub in_hand : IsInHand role (knows v g) x

-- the thread's next command is under way
pub record IsCommanding (reply : Reply) (x : Room) (v : View) : Type 0 where
  pub grip : Grip
  pub command : Command
  pub holds : Holds (working (record { command = command; reply = reply })) v x grip
  pub next : next_of v ≡ Some command
  pub none_drawn : grip.drawn ≡ None
  pub quota : 0 < v.quota
  pub unwritten : v.wrote ≡ false
  pub not_found : v.found_empty ≡ false

-- its entry is drawn, and the room rests
pub record HasDrawn (x : Room) (v : View) : Type 0 where
  pub grip : Grip
  pub holds : Holds resting v x grip
  pub commands : grip.room ≤ (sizes_known v).shards
  pub noted : Noted
  pub drawn : grip.drawn ≡ Some noted
  pub unwritten : v.wrote ≡ false
  pub not_found : v.found_empty ≡ false

-- a take found the queue empty
pub record FindsNone (x : Room) (v : View) : Type 0 where
  pub grip : Grip
  pub holds : Holds resting v x grip
  pub queue : grip.room ≡ (sizes_known v).shards
  pub empty : is_empty_queue x ≡ true
  pub next : next_of v ≡ Some Take
  pub none_drawn : grip.drawn ≡ None
  pub quota : 0 < v.quota
  pub unwritten : v.wrote ≡ false
  pub not_found : v.found_empty ≡ false

-- its restart point is written to its own room, with the end that it told
pub record WritesOwn (end : ThreadEnd) (x : Room) (v : View) : Type 0 where
  pub grip : Grip
  pub holds : Holds (writing_point (point_of v) end) v x grip
  pub own : grip.room ≡ thread_room (sizes_known v) v.thread
  pub end_is : IsEndOf (next_of v) end
  pub cause : HasCause v.quota v.found_empty (next_of v)
  pub waits : v.quota ≡ v.beginning.settings.every → end ≢ Ready
  pub unwritten : v.wrote ≡ false

-- no memory was had for a command: the power is off, and the room rests
pub record IsRefused (x : Room) (v : View) : Type 0 where
  pub grip : Grip
  pub holds : Holds resting v x grip
  pub off : v.saw_off ≡ true

-- nothing is held; where the thread closes, it gave its room up
pub record HoldsNone (v : View) : Type 0 where
  pub none : v.grip ≡ None
  pub closing : v.phase ≡ Closing → v.saw_off ≡ true

-- it closes the epoch, and has room for the mark
pub record IsClosing (c : WorkerState) (closer : CloserState) (v : View) : Type 0 where
  pub closes : ClosesFor closer v
  pub spare : 0 < c.spare

-- by what is in hand
abbrev pub HandFits : WorkerState → Hand → View → Type 0
HandFits c Empty v = HoldsNone v
HandFits c (Commands reply x) v = IsCommanding reply x v
HandFits c (Drawn x) v = HasDrawn x v
HandFits c (NoItem x) v = FindsNone x v
HandFits c (Own x) v = WritesOwn c.end x v
HandFits c (Closes closer) v = IsClosing c closer v
HandFits c (Refused x) v = IsRefused x v

-- the thread's own checkpoints, where they are told: as before, and so are the worker's marks; or one more of both
abbrev pub MarksFollow : Option (List OwnMark) → Option (List OwnMark) → List Mark → List Mark → Type 0
MarksFollow told_before told marks_before marks = ((told ≡ told_before) × (marks ≡ marks_before))
    ⊎ ((m : OwnMark) × (told ≡ with_own told_before m) × (marks ≡ marks_before ++ m.mark ∷ []))

-- THE WORKER.

-- how many entries are drawn whose room is not home: the view's place and quota are ahead of the worker's by so many
abbrev pub ahead : Hand → ℕ
ahead Empty = 0
ahead (Commands reply x) = 0
ahead (Drawn x) = 1
ahead (NoItem x) = 0
ahead (Own x) = 0
ahead (Closes closer) = 0
ahead (Refused x) = 0

-- what it keeps is what its view says
pub record FitsView (c : WorkerState) (v : View) : Type 0 where
  pub thread : c.thread ≡ v.thread
  pub settings : c.settings ≡ v.beginning.settings
  pub script : c.commands ≡ script_of v.beginning.scripts v.thread
  pub place : place_of v ≡ c.position + ahead c.hand
  pub quota : c.quota ≡ v.quota + ahead c.hand
  pub epoch : c.epoch ≡ v.ran
  pub wrote : c.wrote ≡ v.wrote
  pub found_empty : c.found_empty ≡ v.found_empty
  pub marks : length c.marks ≡ v.checkpoints

-- its numbers are within their limits
pub record IsWithin (c : WorkerState) : Type 0 where
  pub valid : IsValid c.settings
  pub thread : c.thread < c.settings.threads
  pub short : length c.commands ≤ 4096
  pub position : c.position + ahead c.hand ≤ length c.commands
  pub quota : c.quota ≤ c.settings.every

-- the end that it told belongs to its place, where it stands and where its room is written
pub record HasTold (c : WorkerState) (v : View) : Type 0 where
  pub standing : v.phase ≢ Running → IsEndOf (next_of v) c.end
  pub written : v.wrote ≡ true → IsEndOf (next_of v) c.end × HasCause v.quota v.found_empty (next_of v)
  -- with its whole quota left it has nothing to do in this epoch
  pub waits : v.wrote ≡ true → v.quota ≡ v.beginning.settings.every → c.end ≢ Ready
  -- where it stood behind its run its room was written
  pub stood : v.phase ≡ Standing → 0 < v.ran → v.wrote ≡ true
  -- where a take of its epoch found the queue empty, that take is its next command
  pub found : v.found_empty ≡ true → next_of v ≡ Some Take

-- the epochs in which it ran are of this life, and it released no checkpoint twice in one
pub record HasRun (v : View) : Type 0 where
  pub first : 0 < v.ran → first_epoch v.beginning ≤ v.ran
  pub last : v.last_checkpoint ≤ v.ran + 1
  pub running : v.phase ≢ Standing → (0 < v.ran) × (v.last_checkpoint ≤ v.ran)
  -- it gave no room back while the power was on
  pub given : v.saw_off ≡ false → v.given_back ≡ None

-- a worker of a view
pub record IsWorker (c : WorkerState) (v : View) : Type 0 where
  pub fits : FitsView c v
  pub within : IsWithin c
  pub hand : HandFits c c.hand v
  pub told : HasTold c v
  pub run : HasRun v
  pub least : least_done_by c.settings c.hand v ≤ c.done
  pub most : c.done + 12 ≤ most_done_by c.settings c.hand v
