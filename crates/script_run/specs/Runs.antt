-- Runs of a replay as the code makes them.
use Rattle.std.specs.Prelude.{◌≡◌, ℕ, ◌≤◌, ◌⊎◌, ◌++◌, Bool, true, false, List, ◌∷◌, Err}
use Rattle.std.specs.List.{All}
use Rattle.std.specs.declared.alloc.AllocError.{AllocError}
use Rattle.worker_model.specs.Workers.{WorkerState}
use Rattle.replay_model.specs.Replays.{ReplayState, is_over_in, TurnOf}
use Rattle.replay_progress.specs.Runs.{RunsKept}

-- each worker has done at most so many events
abbrev pub HaveDone : ℕ → ReplayState → Type 0
HaveDone n s = All (λ (c : WorkerState). c.done ≤ n) s.workers

-- memory ran out: some first turns led, each to a replay, to a state that is not over; the next turn was refused, or was not made
pub record DriesKept (turns : List ℕ) (s t : ReplayState) : Type 0 where
  pub front : List ℕ
  pub thread : ℕ
  pub back : List ℕ
  pub turns_are : turns ≡ front ++ thread ∷ back
  pub last : ReplayState
  pub runs : RunsKept front s last
  pub not_over : is_over_in last ≡ false
  pub refused : ((error : AllocError) × TurnOf thread last (Err error) t) ⊎ (t ≡ last)

-- the run ended by itself, or memory ran out; each turn led to a replay
abbrev pub RunsOrDries : Bool → List ℕ → ReplayState → ReplayState → Type 0
RunsOrDries false turns s t = RunsKept turns s t
RunsOrDries true turns s t = DriesKept turns s t
