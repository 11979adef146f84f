-- The laws of how a life ends.
use Rattle.std.specs.Prelude.{◌≡◌, ◌≢◌, ℕ, ◌⊎◌, List, [], ◌∷◌, ◌++◌, length, Some}
use Rattle.seq_object.specs.declared.history.Entry.{Entry}
use Rattle.seq_object.specs.declared.command.Command.TheVariants.{Take}
use Rattle.life_model.specs.declared.life.Life.TheVariants.{Resume}
use Rattle.life_model.specs.declared.life.Outcome.{Outcome}
use Rattle.life_model.specs.declared.life.Outcome.TheVariants.{Finished, Starved}
use Rattle.life_model.specs.Life.{Opening, next_command, IsPause, contents_now}
use Rattle.life_model.specs.Ends.{AreUsed, IsFinished, IsStalled, EndsAs}

-- where all scripts are used, a mark of all entries finishes a life
abbrev pub FinishedMarkLaw : Type 0
FinishedMarkLaw = (o : Opening) (h : List Entry) (marks : List ℕ) → AreUsed o h → IsFinished o h (marks ++ length h ∷ [])

-- where each thread is at its script's end or before a take, one at least before a take, and the queue is empty, a closing's mark
-- of all entries stalls a life
abbrev pub StalledMarkLaw : Type 0
StalledMarkLaw = (o : Opening) (h : List Entry) (marks : List ℕ) (waiting : ℕ) → (o.life ≡ Resume → marks ≢ [])
    → ((thread : ℕ) → IsPause (next_command o h thread)) → next_command o h waiting ≡ Some Take → (contents_now o h).items ≡ []
    → IsStalled o h (marks ++ length h ∷ [])

-- a life is finished or it is not
abbrev pub FinishedOrNotLaw : Type 0
FinishedOrNotLaw = (o : Opening) (h : List Entry) (marks : List ℕ) → IsFinished o h marks ⊎ (IsFinished o h marks → ⊥)

-- a finished life ends so, or starved
abbrev pub FinishedEndLaw : Type 0
FinishedEndLaw = (o : Opening) (h : List Entry) (marks : List ℕ) (outcome : Outcome) → EndsAs outcome o h marks
    → IsFinished o h marks → (outcome ≡ Finished) ⊎ (outcome ≡ Starved)
