-- How a life ends under a schedule that offers enough rounds, and how seldom it closes an epoch.
use Rattle.std.specs.Prelude.{◌≡◌, ◌≢◌, ◌⊎◌, ℕ, List}
use Rattle.seq_object.specs.declared.history.Entry.{Entry}
use Rattle.life_model.specs.declared.life.Outcome.{Outcome}
use Rattle.life_model.specs.declared.life.Outcome.TheVariants.{Finished, Cut, Starved}
use Rattle.life_model.specs.Life.{Opening, sizes}
use Rattle.life_model.specs.Work.{OffersRounds, turns_for_rounds, HasNoTake, ClosesSeldom, ClosesOncePerEntry}
use Rattle.plain_yard.specs.Opening.{commands_in}
use Rattle.rounds.specs.Spent.{takeless_rounds, enough_rounds}

-- where no script has a take, a life whose turns offer one stretch of rounds for each command of all scripts, and one more, is finished, or
-- memory ran out; and where they offer two for each command, one for each thread, and one more, the life is not cut
pub record EndsByRounds (o : Opening) (turns : List ℕ) (outcome : Outcome) : Type 0 where
  pub takeless : HasNoTake o → OffersRounds o.settings.threads (takeless_rounds (sizes o) (commands_in o.scripts)) turns → (outcome ≡ Finished) ⊎ (outcome ≡ Starved)
  pub not_cut : OffersRounds o.settings.threads (enough_rounds (sizes o) (commands_in o.scripts)) turns → outcome ≢ Cut

-- so it is with the turns of a schedule in which rounds are counted: all at a start, and in a resume those after the most that recovery takes
abbrev pub EndsWhereEnough : Opening → List ℕ → Outcome → Type 0
EndsWhereEnough o schedule outcome = EndsByRounds o (turns_for_rounds o schedule) outcome

-- the closings are at most two for each entry and one for each thread, and without a take one for each entry
pub record ClosesFew (o : Opening) (h : List Entry) (marks : List ℕ) : Type 0 where
  pub seldom : ClosesSeldom o h marks
  pub once_per_entry : ClosesOncePerEntry o h marks
