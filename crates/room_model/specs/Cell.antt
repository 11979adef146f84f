-- A cell is one line: words 0 to 2 are its record, words 3 to 5 the backup of the record, word 6 the tag, an epoch. Word 7 is unused.
use Rattle.std.specs.Prelude.{◌≡◌, ℕ, ◌≤◌, ◌==◌, List, [], ◌∷◌, length, if◌then◌else◌, slice_index}
use Rattle.line_memory.specs.Line.{LineState, survivor}

-- the epoch in which the cell's backup was last taken
abbrev pub tag_of : List ℕ → ℕ
tag_of words = slice_index words 6

-- the record of the cell
abbrev pub record_of : List ℕ → List ℕ
record_of words = slice_index words 0 ∷ slice_index words 1 ∷ slice_index words 2 ∷ []

-- the record as the epoch of the tag found it
abbrev pub backup_of : List ℕ → List ℕ
backup_of words = slice_index words 3 ∷ slice_index words 4 ∷ slice_index words 5 ∷ []

-- the recovered triple of the cell at an epoch: the backup where the cell is tagged with the epoch, else the record
abbrev pub triple_of : ℕ → List ℕ → List ℕ
triple_of epoch words = if tag_of words == epoch then backup_of words else record_of words

-- a cell of eight words with a tag of at most the epoch, whose triple there is this one
pub record IsSafe (epoch : ℕ) (triple words : List ℕ) : Type 0 where
  pub eight : length words ≡ 8
  pub tag : tag_of words ≤ epoch
  pub recovers : triple_of epoch words ≡ triple

-- whichever of its pending stores the line keeps, it is a cell with a tag of at most the epoch, and its triple there is the one that
-- memory holds
abbrev pub IsRecoverable : ℕ → LineState → Type 0
IsRecoverable epoch l = (k : ℕ) → IsSafe epoch (triple_of epoch l.base) (survivor l k)
