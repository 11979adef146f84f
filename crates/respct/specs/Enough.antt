-- Turns that are enough for a script, in whatever order its threads come to their rooms, and what a status says of them.
use Rattle.std.specs.Prelude.{◌≢◌, ◌⊎◌, ℕ, ◌+◌, ◌*◌, ◌≤◌}
use Rattle.seq_object.specs.Sizes.{sizes_of, line_total}
use Rattle.life_model.specs.declared.life.Life.{Life}
use Rattle.life_model.specs.declared.life.Life.TheVariants.{Start, Resume}
use Rattle.life_model.specs.Life.{Opening, start_of}
use Rattle.life_model.specs.Work.{OffersRounds, turns_for_rounds, HasNoTake}
use Rattle.plain_yard.specs.Opening.{commands_in}
use Rattle.rounds.specs.Spent.{takeless_rounds, enough_rounds}
use Rattle.script_text.specs.Program.{Program, Turns, round_robin, seeded, listed, live}
use Rattle.respct.specs.declared.status.Status.{Status}
use Rattle.respct.specs.declared.status.Status.TheVariants.{Stalled, Cut}
use Rattle.respct.specs.Run.{schedule_in}

-- the scripts of a program, as a life of this kind has them
abbrev pub scripts_in : Life → Program → Opening
scripts_in life p = record (start_of p.settings p.threads) { life = life }

-- the turns go round, and are so many or more
abbrev pub GoRound : ℕ → Turns → Type 0
GoRound least (round_robin n) = least ≤ n
GoRound least (seeded seed n) = ⊥
GoRound least (listed threads) = ⊥
GoRound least (live n) = ⊥

-- the turns that a life of this kind needs for so many rounds, where they go round: one for each thread in each round, and at a resume the
-- most that recovery takes
abbrev pub turns_for : Life → Program → ℕ → ℕ
turns_for Start p rounds = p.settings.threads * rounds
turns_for Resume p rounds = p.settings.threads * rounds + 5 * line_total (sizes_of p.settings)

-- the turns of a program give so many rounds: its schedule offers them, or they go round and are that many
abbrev pub GivesRounds : Life → ℕ → Program → Type 0
GivesRounds life rounds p = OffersRounds p.settings.threads rounds (turns_for_rounds (scripts_in life p) (schedule_in p)) ⊎ GoRound (turns_for life p rounds) p.turns

-- they are enough where no thread has a take,
abbrev pub HasEnoughTurns : Life → Program → Type 0
HasEnoughTurns life p = GivesRounds life (takeless_rounds (sizes_of p.settings) (commands_in p.threads)) p

-- and whatever the threads have
abbrev pub HasTurnsForTakes : Life → Program → Type 0
HasTurnsForTakes life p = GivesRounds life (enough_rounds (sizes_of p.settings) (commands_in p.threads)) p

-- what a status says of the turns of a program: where they are enough its life was not cut, and without a take it did not stall either
pub record IsInTime (life : Life) (p : Program) (status : Status) : Type 0 where
  pub not_cut : HasTurnsForTakes life p → status ≢ Cut
  pub takeless : HasNoTake (scripts_in life p) → HasEnoughTurns life p → (status ≢ Cut) × (status ≢ Stalled)
