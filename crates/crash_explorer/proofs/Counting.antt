-- How many survivors lines have.
use Rattle.std.proofs.Common.{◌≡◌, ℕ, ◌+◌, ◌*◌, ◌<◌, ◌≤◌, List, [], ◌∷◌, length, drop, slice_index, ap, sym, ◌∙◌, arith}
use Rattle.std.proofs.Math.Nat.{mul-le-mul_left, mul_assoc, one-le-mul}
use Rattle.std.proofs.lemmas.List.{drop_more}
use Rattle.crash_explorer.specs.Order.{survivor_count}

-- there is a survivor
pub some_survivor : (ms : List ℕ) → 1 ≤ survivor_count ms
some_survivor [] = omega arith
some_survivor (m ∷ ms) = one-le-mul {a = m + 1} {b = survivor_count ms} (omega arith) (some_survivor ms)

-- one more line is counted
pub count-more : (p i : ℕ) (ms : List ℕ) → i < length ms → p * survivor_count (drop i ms) ≡ p * (slice_index ms i + 1) * survivor_count (drop (i + 1) ms)
count-more p i ms lt = ap (λ (xs : List ℕ). p * survivor_count xs) (drop_more ms i 0 lt) ∙ sym (mul_assoc p (slice_index ms i + 1) (survivor_count (drop (i + 1) ms)))

-- the lines that are counted have no more survivors than all
pub count-some : (p i : ℕ) (ms : List ℕ) → p ≤ p * survivor_count (drop i ms)
count-some p i ms = let one : p * 1 ≤ p * survivor_count (drop i ms) = mul-le-mul_left p (some_survivor (drop i ms)) in omega arith
