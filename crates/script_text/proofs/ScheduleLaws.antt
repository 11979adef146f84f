-- Schedules turn by turn.
use Rattle.std.proofs.Common.{◌≡◌, ℕ, ◌+◌, ◌%◌, ◌<◌, zero, suc, length, refl, ap, ◌∙◌, arith}
use Rattle.std.specs.Prelude.{slice_index}
use Rattle.std.specs.List.{AllByRecursion}
use Rattle.std.proofs.lemmas.List.Elements.{All-from_recursion}
use Rattle.store_order.specs.Choice.{word_drawn}
use Rattle.life_model.specs.Work.{in_turn}
use Rattle.script_text.specs.Program.{round_robin, seeded, listed, live}
use Rattle.script_text.specs.Schedules.{drawn_turns, schedule_of, TurnCountLaw, ThreadsNamedLaw, TurnLaw}

-- so many turns in turn
length-in_turn : (threads turn n : ℕ) → length (in_turn threads turn n) ≡ n
length-in_turn threads turn zero = refl
length-in_turn threads turn (suc n) = ap suc (length-in_turn threads (suc turn) n)

-- so many turns by a seed
length-drawn : (threads seed turn n : ℕ) → length (drawn_turns threads seed turn n) ≡ n
length-drawn threads seed turn zero = refl
length-drawn threads seed turn (suc n) = ap suc (length-drawn threads seed (suc turn) n)

-- turns by their kinds
pub turn_count_law : TurnCountLaw
turn_count_law threads (round_robin n) = length-in_turn threads 0 n
turn_count_law threads (seeded seed n) = length-drawn threads seed 0 n
turn_count_law threads (listed named) = refl
turn_count_law threads (live n) = refl

-- a remainder is below the number of threads
below : (x threads : ℕ) → 0 < threads → x % threads < threads
below x threads some = omega arith

-- in turn
in_turn_below : (threads turn n : ℕ) → 0 < threads → AllByRecursion (λ thread. thread < threads) (in_turn threads turn n)
in_turn_below threads turn zero some = tt
in_turn_below threads turn (suc n) some = (below turn threads some, in_turn_below threads (suc turn) n some)

-- by a seed
drawn_below : (threads seed turn n : ℕ) → 0 < threads → AllByRecursion (λ thread. thread < threads) (drawn_turns threads seed turn n)
drawn_below threads seed turn zero some = tt
drawn_below threads seed turn (suc n) some = (below (word_drawn seed turn) threads some, drawn_below threads seed (suc turn) n some)

-- each turn's thread is one
pub threads_named_law : ThreadsNamedLaw
threads_named_law threads (round_robin n) some within = All-from_recursion (λ thread. thread < threads) (in_turn threads 0 n) (in_turn_below threads 0 n some)
threads_named_law threads (seeded seed n) some within = All-from_recursion (λ thread. thread < threads) (drawn_turns threads seed 0 n) (drawn_below threads seed 0 n some)
threads_named_law threads (listed named) some within = All-from_recursion (λ thread. thread < threads) named within.0
threads_named_law threads (live n) some within = All-from_recursion (λ thread. thread < threads) (schedule_of threads (live n)) tt

-- a turn in turn
in_turn_at : (threads turn n k : ℕ) → k < n → slice_index (in_turn threads turn n) k ≡ (turn + k) % threads
in_turn_at threads turn zero k lt = absurd (omega arith)
in_turn_at threads turn (suc n) zero lt = ap (λ (x : ℕ). x % threads) (omega arith)
in_turn_at threads turn (suc n) (suc k) lt = in_turn_at threads (suc turn) n k (omega arith) ∙ ap (λ (x : ℕ). x % threads) (omega arith)

-- a turn by a seed
drawn_at : (threads seed turn n k : ℕ) → k < n → slice_index (drawn_turns threads seed turn n) k ≡ word_drawn seed (turn + k) % threads
drawn_at threads seed turn zero k lt = absurd (omega arith)
drawn_at threads seed turn (suc n) zero lt = ap (λ (x : ℕ). word_drawn seed x % threads) (omega arith)
drawn_at threads seed turn (suc n) (suc k) lt = drawn_at threads seed (suc turn) n k (omega arith) ∙ ap (λ (x : ℕ). word_drawn seed x % threads) (omega arith)

-- from turn 0 on
pub turn_law : TurnLaw
turn_law = record {
  going_round = λ threads n k lt. in_turn_at threads 0 n k lt ∙ ap (λ (x : ℕ). x % threads) (omega arith);
  by_seed = λ threads seed n k lt. drawn_at threads seed 0 n k lt ∙ ap (λ (x : ℕ). word_drawn seed x % threads) (omega arith);
}
