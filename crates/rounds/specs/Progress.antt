-- The progress of a replay: how far its threads have come, as far as the next turn of each depends on it.
use Rattle.std.specs.Prelude.{ℕ, ◌-◌, ◌==◌, Bool, true, false, Option, if◌then◌else◌}
use Rattle.seq_object.specs.declared.command.Command.{Command}
use Rattle.restart_point.specs.declared.thread_end.ThreadEnd.{ThreadEnd}
use Rattle.yard_model.specs.declared.view.Phase.{Phase}
use Rattle.yard_model.specs.declared.view.Phase.TheVariants.{Standing, Running, Closing}

-- what a thread is about, by its phase and by what is in its hand
pub data Activity : Type 0 where
  -- it is at its restart point
  AtPoint : Activity
  -- it runs and holds no room
  EmptyHanded : Activity
  -- it runs and holds the room of its command, of which so many stores are left, and then the draw of its entry
  OnCommand : ℕ → Activity
  -- it runs and holds the room of a command whose entry is drawn
  OnDrawn : Activity
  -- it runs and holds the queue room, which its take found empty
  OnEmptyQueue : Activity
  -- it runs and holds its own room, with so many stores of its restart point left
  OnOwnRoom : ℕ → Activity
  -- it closes: so many rooms are done, and it is at this stage of the next one, 0 where it does not hold it and 3 at most
  OnClosing : ℕ → ℕ → Activity

-- one thread
pub record ThreadProgress : Type 0 where
  pub activity : Activity
  pub ran : ℕ  -- the epoch in which it last ran, 0 where it has not run
  pub quota : ℕ  -- how many commands it may still carry out in that epoch; it falls at the draw
  pub wrote : Bool  -- whether its own room was written in that epoch
  pub found_empty : Bool  -- whether a take found the queue empty in that epoch
  pub next : Option Command  -- its next command
  pub end : ThreadEnd  -- the end that stands in its room; while that is in its hand, any

-- what all threads share
pub record SharedProgress : Type 0 where
  pub epoch : ℕ  -- the epoch that runs
  pub fed : Bool  -- whether it began with an item in the queue
  pub over : Bool  -- whether the life is over
  pub closed : ℕ  -- how many epochs were closed in this life
  pub covered : ℕ  -- how many entries the last checkpoint covers
  pub entries : ℕ  -- how many entries there are
  pub write_backs : ℕ  -- how many lines were written back since the threads began

-- both, with each thread by its number
pub record Progress : Type 0 where
  pub shared : SharedProgress
  pub threads : ℕ → ThreadProgress

-- the phase of a thread that is about this
abbrev pub phase_of : Activity → Phase
phase_of AtPoint = Standing
phase_of EmptyHanded = Running
phase_of (OnCommand stores) = Running
phase_of OnDrawn = Running
phase_of OnEmptyQueue = Running
phase_of (OnOwnRoom stores) = Running
phase_of (OnClosing rooms stage) = Closing

-- whether it runs and holds a room
abbrev pub is_holding : Activity → Bool
is_holding AtPoint = false
is_holding EmptyHanded = false
is_holding (OnCommand stores) = true
is_holding OnDrawn = true
is_holding OnEmptyQueue = true
is_holding (OnOwnRoom stores) = true
is_holding (OnClosing rooms stage) = false

-- how many entries it is sure to draw before its room goes home
abbrev pub entries_to_come : Activity → ℕ
entries_to_come AtPoint = 0
entries_to_come EmptyHanded = 0
entries_to_come (OnCommand stores) = 1
entries_to_come OnDrawn = 0
entries_to_come OnEmptyQueue = 0
entries_to_come (OnOwnRoom stores) = 0
entries_to_come (OnClosing rooms stage) = 0

-- how many entries a thread has since the last checkpoint, where this epoch runs and each thread may draw so many in one
abbrev pub drawn_since : ℕ → ℕ → ThreadProgress → ℕ
drawn_since every epoch x = if x.ran == epoch then every - x.quota else 0
