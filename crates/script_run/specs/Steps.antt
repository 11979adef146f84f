-- One turn of a run, with the mark that it tells.
use Rattle.std.specs.Prelude.{◌≡◌, ℕ, ◌+◌, ◌≤◌, ◌⊎◌, Bool, true, false, List, [], length, Option, Some, None, Ok, Err, slice_get}
use Rattle.std.specs.declared.alloc.AllocError.{AllocError}
use Rattle.life_model.specs.declared.life.Mark.{Mark}
use Rattle.life_model.specs.Life.{reported}
use Rattle.yard_model.specs.Beginnings.{opening_of, marks_of}
use Rattle.script_text.specs.Program.{Turns}
use Rattle.script_text.specs.Schedules.{schedule_of}
use Rattle.turn_order.specs.Orders.{OrderState, IsOrderOf}
use Rattle.worker_model.specs.declared.hand.Turn.{Turn}
use Rattle.worker_model.specs.Workers.{WorkerState}
use Rattle.replay_model.specs.Replays.{ReplayState, TurnOf}
use Rattle.replay_model.specs.Kept.{IsReplay}
use Rattle.script_run.specs.Runs.{HaveDone}

-- the checkpoints that the worker of a thread released
abbrev pub marks_in : Option WorkerState → List Mark
marks_in None = []
marks_in (Some c) = c.marks

abbrev pub marks_by : ReplayState → ℕ → List Mark
marks_by s i = marks_in (slice_get s.workers i)

-- these marks are those of the checkpoints of the yard
abbrev pub AreMarksOf : List Mark → ReplayState → Type 0
AreMarksOf marks s = marks ≡ reported (opening_of s.yard.beginning) (marks_of s.yard.beginning s.yard.told.checkpoints)

-- an order of these turns, of which no more are given than there are
pub record IsOrderIn (threads : ℕ) (turns : Turns) (o : OrderState) : Type 0 where
  pub order : IsOrderOf turns o
  pub same_threads : o.threads ≡ threads
  pub given : o.given ≤ length (schedule_of threads turns)

-- the thread had its turn; or memory ran out, at the turn or before it
abbrev pub HasTurnOrDries : Bool → ℕ → ReplayState → ReplayState → Type 0
HasTurnOrDries false i s t = (answer : Turn) × TurnOf i s (Ok answer) t
HasTurnOrDries true i s t = ((error : AllocError) × TurnOf i s (Err error) t) ⊎ (t ≡ s)

-- what a turn keeps: the replay is one, of as many threads and the same beginning, and no worker did more than one event
pub record StaysReplay (s t : ReplayState) : Type 0 where
  pub replay : IsReplay t
  pub beginning : t.yard.beginning ≡ s.yard.beginning
  pub number : length t.workers ≡ length s.workers
  pub done : (n : ℕ) → HaveDone n s → HaveDone (n + 1) t
