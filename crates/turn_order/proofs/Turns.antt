-- The thread of a turn by the kinds of schedules.
use Rattle.std.proofs.Common.{◌≡◌, ℕ, ◌%◌, ◌<◌, ◌≤◌, List, length, refl, ap, ◌∙◌, sym, subst}
use Rattle.std.specs.Prelude.{slice_index, slice_index_or, slice_get, Some, None}
use Rattle.std.proofs.lemmas.Option.{slice_get-get_or, slice_get_past, slice_get_read}
use Rattle.rand_xoshiro.specs.SplitMix64.{mix_u64}
use Rattle.store_order.specs.Choice.{state_after}
use Rattle.script_text.specs.Program.{Turns, round_robin, seeded, listed}
use Rattle.script_text.specs.Schedules.{schedule_of, turn_count}
use Rattle.script_text.proofs.ScheduleLaws.{turn_count_law, turn_law}

-- a turn of a schedule is that of the thread at its place
turn_at : (threads : ℕ) (turns : Turns) (k : ℕ) → k < turn_count turns → slice_get (schedule_of threads turns) k ≡ Some (slice_index (schedule_of threads turns) k)
turn_at threads turns k lt = slice_get-get_or (schedule_of threads turns) k 0 (subst (λ (n : ℕ). k < n) (sym (turn_count_law threads turns)) lt)

-- behind the last turn there is none
pub no_turn : (threads : ℕ) (turns : Turns) (k : ℕ) → turn_count turns ≤ k → None ≡ slice_get (schedule_of threads turns) k
no_turn threads turns k le = sym (slice_get_past (schedule_of threads turns) k (subst (λ (n : ℕ). n ≤ k) (sym (turn_count_law threads turns)) le))

-- going round, turn k is that of thread k by the number of threads
pub turn_round : (threads n k : ℕ) → k < n → Some (k % threads) ≡ slice_get (schedule_of threads (round_robin n)) k
turn_round threads n k lt = sym (turn_at threads (round_robin n) k lt ∙ ap Some (turn_law.going_round threads n k lt))

-- by a seed, the word that the generator draws behind k words names the thread of turn k
pub turn_drawn : (threads seed n k words : ℕ) → words ≡ state_after k seed → k < n → Some ((mix_u64 words).0 % threads) ≡ slice_get (schedule_of threads (seeded seed n)) k
turn_drawn threads seed n k words drawn lt =
    ap (λ (w : ℕ). Some ((mix_u64 w).0 % threads)) drawn ∙ sym (turn_at threads (seeded seed n) k lt ∙ ap Some (turn_law.by_seed threads seed n k lt))

-- by a list, turn k is that of the thread at place k
pub turn_listed : (threads k thread : ℕ) (turns : Turns) (named : List ℕ) → turns ≡ listed named → k < length named → thread ≡ slice_index_or named k thread
    → Some thread ≡ slice_get (schedule_of threads turns) k
turn_listed threads k thread turns named is lt reads =
    subst (λ (turns : Turns). Some thread ≡ slice_get (schedule_of threads turns) k) (sym is) (sym (slice_get_read named (length named) k thread refl lt reads))
