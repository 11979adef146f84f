-- Marks that never fall end at most where the last of them may.
use Rattle.std.proofs.Common.{ℕ, zero, suc, ◌<◌, ◌≤◌, List, [], ◌∷◌, length, drop, slice_index_or, arith}
use Rattle.life_model.specs.declared.life.Mark.{Mark}
use Rattle.life_model.specs.Life.{AreRising, lengths}

-- they end above where they begin
pub top : (low : ℕ) (ns : List ℕ) (high : ℕ) → AreRising low ns high → low ≤ high
top low [] high h = h
top low (n ∷ ns) high h = let rest : n ≤ high = top n ns high h.1 in omega (arith, rest, h.0)

-- the next of them is at most their end
pub next_within : (low high : ℕ) (marks : List Mark) (k : ℕ) → k < length marks → AreRising low (lengths (drop k marks)) high
    → (slice_index_or marks k record { epoch = 0; length = 0 }).length ≤ high
next_within low high [] k lt h = absurd (omega (arith, lt))
next_within low high (m ∷ ms) zero lt h = top m.length (lengths ms) high h.1
next_within low high (m ∷ ms) (suc k) lt h = next_within low high ms k (omega (arith, lt)) h
