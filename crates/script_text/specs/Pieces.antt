-- Pieces of bytes round a separator: a text is pieces round the line feed, a line is pieces round the space.
use Rattle.std.specs.Prelude.{◌≡◌, ℕ, ◌<◌, ◌==◌, List, [], ◌∷◌, length, Option, Some, None, Bool, false, ◌&&◌, codes}
use Rattle.std.specs.Str.{bytes_eq}
use Rattle.std.specs.List.{slice_split, join_with_byte}
use Rattle.script_text.specs.declared.pieces.Words.{Words}
use Rattle.script_text.specs.declared.pieces.Words.TheVariants.{One, Two, Three, Four, More}

-- the pieces of bytes round a separator, always one more than there are separators
abbrev pub pieces : ℕ → List ℕ → List (List ℕ)
pieces at bytes = slice_split (λ b. b == at) bytes

-- pieces with one separator between each two
abbrev pub joined : ℕ → List (List ℕ) → List ℕ
joined at ps = join_with_byte at ps

-- the pieces of what follows a separator, none where no separator follows
abbrev pub pieces_behind : ℕ → Option (List ℕ) → List (List ℕ)
pieces_behind at None = []
pieces_behind at (Some bytes) = pieces at bytes

-- the words of a line: what stands between single spaces, so an empty piece is a word
abbrev pub words : List ℕ → List (List ℕ)
words line = pieces 32 line

-- the first two words are this name and `list`
abbrev pub begins_list : List ℕ → List (List ℕ) → Bool
begins_list name [] = false
begins_list name (a ∷ []) = false
begins_list name (a ∷ b ∷ ws) = bytes_eq a name && bytes_eq b (codes "list")

-- these are the words
abbrev pub AreWords : Words → List (List ℕ) → Type 0
AreWords (One a) ws = ws ≡ a.now ∷ []
AreWords (Two a b) ws = ws ≡ a.now ∷ b.now ∷ []
AreWords (Three a b c) ws = ws ≡ a.now ∷ b.now ∷ c.now ∷ []
AreWords (Four a b c d) ws = ws ≡ a.now ∷ b.now ∷ c.now ∷ d.now ∷ []
AreWords More ws = 4 < length ws
