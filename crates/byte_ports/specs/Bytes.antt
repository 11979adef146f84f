-- What a source has left and what a sink holds, where they tell it: None stands for bytes that are not told, of which nothing is said.
-- A source or a sink that tells goes on telling.
use Rattle.std.specs.Prelude.{◌≡◌, ℕ, ◌+◌, ◌<◌, ◌↔◌, Option, Some, None, List, [], ◌++◌, length, take}

-- these are all the bytes that are left
abbrev pub Leaves : Option (List ℕ) → List ℕ → Type 0
Leaves None bytes = Unit {0}
Leaves (Some left) bytes = left ≡ bytes

-- no byte is left
abbrev pub IsAtEnd : Option (List ℕ) → Type 0
IsAtEnd told = Leaves told []

-- what is told is as it was
abbrev pub Keeps : Option (List ℕ) → Option (List ℕ) → Type 0
Keeps None new = Unit {0}
Keeps (Some old) None = ⊥
Keeps (Some old) (Some new) = new ≡ old

-- exactly these bytes were taken from the front of those left
abbrev pub TookSoFar : Option (List ℕ) → Option (List ℕ) → List ℕ → Type 0
TookSoFar None new bytes = Unit {0}
TookSoFar (Some old) None bytes = ⊥
TookSoFar (Some old) (Some new) bytes = old ≡ bytes ++ new

-- some of the bytes left were taken, from their front on
abbrev pub TookSome : Option (List ℕ) → Option (List ℕ) → Type 0
TookSome old new = (bytes : List ℕ) × TookSoFar old new bytes

-- these were all the bytes left, and none is left now
abbrev pub Gave : Option (List ℕ) → Option (List ℕ) → List ℕ → Type 0
Gave None new bytes = Unit {0}
Gave (Some old) None bytes = ⊥
Gave (Some old) (Some new) bytes = (old ≡ bytes) × (new ≡ [])

-- this is so exactly where more than `limit` bytes were taken
abbrev pub ExactlyPast : ℕ → Option (List ℕ) → Option (List ℕ) → Type 0 → Type 0
ExactlyPast limit None new answer = Unit {0}
ExactlyPast limit (Some old) None answer = ⊥
ExactlyPast limit (Some old) (Some new) answer = answer ↔ (limit + length new < length old)

-- exactly these bytes were appended
abbrev pub Appended : Option (List ℕ) → Option (List ℕ) → List ℕ → Type 0
Appended None new piece = Unit {0}
Appended (Some old) None piece = ⊥
Appended (Some old) (Some new) piece = new ≡ old ++ piece

-- some of these bytes were appended, from their front on
abbrev pub AppendedSome : Option (List ℕ) → Option (List ℕ) → List ℕ → Type 0
AppendedSome old new piece = (n : ℕ) × Appended old new (take n piece)
