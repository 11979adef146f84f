-- A room of cells is read as a function: its value at i and w is word w of line i; a reading by triples has words 0 to 2 alone. Lines are
-- chained: a word of each names the next, and 0 ends the chain, so line 0 is in no chain.
use Rattle.std.specs.Prelude.{◌≡◌, ◌≢◌, ℕ, ◌+◌, ◌==◌, ◌&&◌, nat_lt, nat_le, Bool, List, [], ◌∷◌, if◌then◌else◌, ◌<◌}

-- the words of a room, by line and word
abbrev pub RoomWords : Type 0
RoomWords = ℕ → ℕ → ℕ

-- from start on these lines are met, each named by the one before, until 0
abbrev pub IsChain : (ℕ → ℕ) → ℕ → List ℕ → Type 0
IsChain next start [] = start ≡ 0
IsChain next start (x ∷ xs) = (start ≡ x) × (x ≢ 0) × IsChain next (next x) xs

-- how often a line stands in a list
abbrev pub times : ℕ → List ℕ → ℕ
times x [] = 0
times x (y ∷ ys) = (if y == x then 1 else 0) + times x ys

-- whether a line has been given out: it is one from the first node line to the line before fresh
abbrev pub is_node : ℕ → ℕ → ℕ → Bool
is_node first fresh x = nat_le first x && nat_lt x fresh

-- a room with one word changed
abbrev pub with_word : RoomWords → ℕ → ℕ → ℕ → RoomWords
with_word r line word value = λ i w. if (i == line) && (w == word) then value else r i w

-- two rooms have the same records
abbrev pub HasSameRecords : RoomWords → RoomWords → Type 0
HasSameRecords r s = (line w : ℕ) → w < 3 → r line w ≡ s line w

-- two rooms have the same words
abbrev pub HasSameRoom : RoomWords → RoomWords → Type 0
HasSameRoom r s = (line w : ℕ) → w < 8 → r line w ≡ s line w
