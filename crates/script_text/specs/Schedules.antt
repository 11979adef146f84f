-- Schedules: which thread has which turn of a replay. Turns are counted from 0.
use Rattle.std.specs.Prelude.{◌≡◌, ℕ, zero, suc, ◌%◌, ◌<◌, List, [], ◌∷◌, length, slice_index}
use Rattle.std.specs.List.{All}
use Rattle.store_order.specs.Choice.{word_drawn}
use Rattle.life_model.specs.Work.{in_turn}
use Rattle.script_text.specs.Program.{Turns, round_robin, seeded, listed, live}
use Rattle.script_text.specs.Text.{AreTurns}

-- so many turns from this turn's on, each of the thread that its word of SplitMix64 by a seed names
abbrev pub drawn_turns : ℕ → ℕ → ℕ → ℕ → List ℕ
drawn_turns threads seed turn zero = []
drawn_turns threads seed turn (suc n) = (word_drawn seed turn % threads) ∷ drawn_turns threads seed (suc turn) n

-- the turns are those of a schedule, and threads do not run by themselves
abbrev pub AreScheduled : Turns → Type 0
AreScheduled (round_robin n) = Unit {0}
AreScheduled (seeded seed n) = Unit {0}
AreScheduled (listed threads) = Unit {0}
AreScheduled (live n) = ⊥

-- the threads that the turns name, for so many threads; threads that run by themselves have no turns
abbrev pub schedule_of : ℕ → Turns → List ℕ
schedule_of threads (round_robin n) = in_turn threads 0 n
schedule_of threads (seeded seed n) = drawn_turns threads seed 0 n
schedule_of threads (listed named) = named
schedule_of threads (live n) = []

-- how many turns there are
abbrev pub turn_count : Turns → ℕ
turn_count (round_robin n) = n
turn_count (seeded seed n) = n
turn_count (listed named) = length named
turn_count (live n) = 0

-- a schedule has as many threads as there are turns
abbrev pub TurnCountLaw : Type 0
TurnCountLaw = (threads : ℕ) (turns : Turns) → length (schedule_of threads turns) ≡ turn_count turns

-- a schedule of turns within their limits names threads below their number
abbrev pub ThreadsNamedLaw : Type 0
ThreadsNamedLaw = (threads : ℕ) (turns : Turns) → 0 < threads → AreTurns threads turns → All (λ thread. thread < threads) (schedule_of threads turns)

-- turn k is that of thread k by the number of threads, or of word k of the seed by it
pub record TurnLaw : Type 0 where
  pub going_round : (threads n k : ℕ) → k < n → slice_index (schedule_of threads (round_robin n)) k ≡ k % threads
  pub by_seed : (threads seed n k : ℕ) → k < n → slice_index (schedule_of threads (seeded seed n)) k ≡ word_drawn seed k % threads
