-- THE RUN OF A REPLAY.
use Rattle.std.specs.Prelude.{◌≡◌, ℕ, zero, suc, ◌++◌, ◌⊎◌, Bool, true, false, List, [], ◌∷◌, length, Some, Result, Ok, Err, slice_get, slice_set}
use Rattle.std.specs.declared.alloc.AllocError.{AllocError}
use Rattle.life_model.specs.declared.life.Outcome.{Outcome}
use Rattle.life_model.specs.declared.life.Outcome.TheVariants.{Finished, Stalled, Cut, Starved}
use Rattle.restart_point.specs.ArrivalWord.{arrival_of}
use Rattle.yard_model.specs.World.{arrival}
use Rattle.yard_model.specs.Outcomes.{ShowsEnd}
use Rattle.room_yard.specs.Answers.{TurnedOff}
use Rattle.plain_yard.specs.Shown.{ShownYard, view_at}
use Rattle.worker_model.specs.declared.hand.Turn.{Turn}
use Rattle.worker_model.specs.Workers.{WorkerState}
use Rattle.worker_model.specs.Turns.{DoesTurn}

-- a yard with its views, and a worker for each thread
pub record ReplayState : Type 0 where
  pub yard : ShownYard
  pub workers : List WorkerState

-- whether the life is over, as the arrival word shows
abbrev pub is_over_in : ReplayState → Bool
is_over_in s = (arrival_of (arrival s.yard.told.world)).over

-- A TURN of thread i leads from s to s', and answers r: it is the first row of the table that applies, for this thread's worker and view, and
-- it changes no other worker; the yard tells its whole state, which the row changes as it says
pub record TurnOf (i : ℕ) (s : ReplayState) (r : Result Turn AllocError) (s' : ReplayState) : Type 0 where
  pub worker : WorkerState
  pub is_worker : slice_get s.workers i ≡ Some worker
  pub behind : WorkerState
  pub does : DoesTurn worker (view_at s.yard i) (Some s.yard.told) r behind (view_at s'.yard i) (Some s'.yard.told)
  pub beginning : s'.yard.beginning ≡ s.yard.beginning
  pub workers : s'.workers ≡ slice_set s.workers i behind

-- THE RUN. The k-th turn is of the k-th thread that the schedule names; it ends at the first state that is over, else where the turns are
-- spent.
abbrev pub RunsBy : Bool → ℕ → (ReplayState → ReplayState → Type 0) → ReplayState → ReplayState → Type 0
RunsBy true i rest s t = t ≡ s
RunsBy false i rest s t = (answer : Turn) × (m : ReplayState) × TurnOf i s (Ok answer) m × rest m t

abbrev pub Runs : List ℕ → ReplayState → ReplayState → Type 0
Runs [] s t = t ≡ s
Runs (i ∷ is) s t = RunsBy (is_over_in s) i (Runs is) s t

-- the run meets want of memory: some first turns lead to a state that is not over; the next turn is refused, or there was no room for the mark
-- that it might acknowledge
pub record RunsDry (turns : List ℕ) (s t : ReplayState) : Type 0 where
  pub front : List ℕ
  pub thread : ℕ
  pub back : List ℕ
  pub turns_are : turns ≡ front ++ thread ∷ back
  pub last : ReplayState
  pub runs : Runs front s last
  pub not_over : is_over_in last ≡ false
  pub refused : ((error : AllocError) × TurnOf thread last (Err error) t) ⊎ (t ≡ last)

-- by the outcome: at want of memory the run ends before its turns are spent, else it is the whole run
abbrev pub RunsTo : Outcome → List ℕ → ReplayState → ReplayState → Type 0
RunsTo Finished turns s t = Runs turns s t
RunsTo Stalled turns s t = Runs turns s t
RunsTo Cut turns s t = Runs turns s t
RunsTo Starved turns s t = RunsDry turns s t

-- GIVING UP. Behind the run each thread's power is turned off, thread by thread, and its worker gives up what it has in hand.
pub record TurnsOff (i : ℕ) (s s' : ReplayState) : Type 0 where
  pub between : ReplayState
  pub off : TurnedOff (view_at s.yard i) (Some s.yard.told) (view_at between.yard i) (Some between.yard.told)
  pub beginning : between.yard.beginning ≡ s.yard.beginning
  pub same : between.workers ≡ s.workers
  pub answer : Turn
  pub gives_up : TurnOf i between (Ok answer) s'

-- so do so many threads from this one on
abbrev pub AllTurnOff : ℕ → ℕ → ReplayState → ReplayState → Type 0
AllTurnOff i zero s t = t ≡ s
AllTurnOff i (suc n) s t = (m : ReplayState) × TurnsOff i s m × AllTurnOff (suc i) n m t

-- THE WHOLE REPLAY: the run, and then the giving up; the outcome is what the yard shows then
pub record Replays (outcome : Outcome) (turns : List ℕ) (s t : ReplayState) : Type 0 where
  pub last : ReplayState
  pub runs : RunsTo outcome turns s last
  pub ends : AllTurnOff 0 (length s.workers) last t
  pub shows : ShowsEnd outcome t.yard.beginning t.yard.told.world t.yard.told.checkpoints
