-- How a life may end.
use Rattle.std.specs.Prelude.{◌≡◌, ◌≢◌, ℕ, ◌<◌, ◌⊎◌, List, [], length, Some, None}
use Rattle.seq_object.specs.declared.command.Command.TheVariants.{Take}
use Rattle.seq_object.specs.declared.history.Entry.{Entry}
use Rattle.life_model.specs.declared.life.Life.TheVariants.{Start}
use Rattle.life_model.specs.declared.life.Outcome.{Outcome}
use Rattle.life_model.specs.declared.life.Outcome.TheVariants.{Finished, Stalled, Cut, Starved}
use Rattle.life_model.specs.Life.{Opening, next_command, covered, closings, IsPause, contents_now}

-- every script is used
abbrev pub AreUsed : Opening → List Entry → Type 0
AreUsed o h = (thread : ℕ) → next_command o h thread ≡ None

-- what was drawn is covered: the last mark has all entries, or a start had nothing to do
abbrev pub IsAllCovered : Opening → List Entry → List ℕ → Type 0
IsAllCovered o h marks = ((marks ≢ []) × (covered marks ≡ length h)) ⊎ ((o.life ≡ Start) × (h ≡ []) × (marks ≡ []))

-- all scripts are used and all entries covered
abbrev pub IsFinished : Opening → List Entry → List ℕ → Type 0
IsFinished o h marks = AreUsed o h × IsAllCovered o h marks

-- a closing covered all entries, and each thread is at its script's end or before a take of the empty queue, one at least before a take
pub record IsStalled (o : Opening) (h : List Entry) (marks : List ℕ) : Type 0 where
  pub closed : 0 < closings o marks
  pub all : covered marks ≡ length h
  pub ends : (thread : ℕ) → IsPause (next_command o h thread)
  pub waiting : ℕ
  pub waits : next_command o h waiting ≡ Some Take
  pub empty : (contents_now o h).items ≡ []

-- the outcome of a life; want of memory is free
abbrev pub EndsAs : Outcome → Opening → List Entry → List ℕ → Type 0
EndsAs Finished o h marks = IsFinished o h marks
EndsAs Stalled o h marks = IsStalled o h marks
EndsAs Cut o h marks = ¬ IsFinished o h marks
EndsAs Starved o h marks = Unit {0}
