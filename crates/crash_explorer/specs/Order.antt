-- The order in which survivors are named: by how many stores they keep, and else line by line from the last. And the order in which they
-- are tried.
use Rattle.std.specs.Prelude.{◌≡◌, ℕ, zero, suc, ◌+◌, ◌*◌, ◌-◌, ◌<◌, ◌⊎◌, cond, nat_lt, sum, List, [], ◌∷◌, length, replicate}

-- counts come before others: on the last line on which they differ they are less
abbrev pub Earlier : List ℕ → List ℕ → Type 0
Earlier [] ks = ⊥
Earlier (j ∷ js) [] = ⊥
Earlier (j ∷ js) (k ∷ ks) = Earlier js ks ⊎ ((js ≡ ks) × (j < k))

-- counts precede others: they keep fewer stores, or as many and come before them
abbrev pub Precedes : List ℕ → List ℕ → Type 0
Precedes js ks = (sum js < sum ks) ⊎ ((sum js ≡ sum ks) × Earlier js ks)

-- how many survivors lines have with so many pending stores each
abbrev pub survivor_count : List ℕ → ℕ
survivor_count [] = 1
survivor_count (m ∷ ms) = (m + 1) * survivor_count ms

-- the counts behind these on an odometer, the first line fastest, where so many stores are pending
abbrev pub advanced : List ℕ → List ℕ → List ℕ
advanced [] ms = []
advanced (k ∷ ks) [] = k ∷ ks
advanced (k ∷ ks) (m ∷ ms) = cond (nat_lt k m) ((k + 1) ∷ ks) (0 ∷ advanced ks ms)

-- the counts number n, from 0 on: first nothing kept, and so on as an odometer
abbrev pub counts_at : ℕ → List ℕ → List ℕ
counts_at zero ms = replicate (length ms) 0
counts_at (suc n) ms = advanced (counts_at n ms) ms

-- how many counts an odometer meets behind these, where so many stores are pending
abbrev pub ahead : List ℕ → List ℕ → ℕ
ahead [] ms = 0
ahead (k ∷ ks) [] = 0
ahead (k ∷ ks) (m ∷ ms) = (m - k) + (m + 1) * ahead ks ms
