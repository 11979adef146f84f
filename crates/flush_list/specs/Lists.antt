-- Lists of lines that are to be flushed: each line once, in the order of the first marks.
use Rattle.std.specs.Prelude.{◌≡◌, ℕ, ◌+◌, ◌-◌, ◌<◌, Bool, not, nat_eq, nat_lt, List, [], ◌∷◌, ◌++◌, length, filter, if◌then◌else◌, Option, Some, None, is_some, false, slice_get, ◌≤◌, ◌^◌}
use Rattle.std.specs.List.{list_any, IsDistinct}

-- a flush list: its lines in the order of their first marks, how many of them were given, and the room that was made for more
pub record FlushListState : Type 0 where
  pub lines : List ℕ
  pub given : ℕ
  pub spare : ℕ

-- the line that there is, or none
abbrev pub one_or_none : Option ℕ → List ℕ
one_or_none None = []
one_or_none (Some line) = line ∷ []

-- the lines of a list whose first line has a place of its own
abbrev pub lines_of : Option ℕ → List ℕ → List ℕ
lines_of first others = one_or_none first ++ others

-- how the lines of a list are kept: no line is there twice, others are there only behind a first one, and there is room for as many as
-- the others have places left and, as long as there is no first one, one more
pub record HasLines (first : Option ℕ) (others : List ℕ) (places : ℕ) (f : FlushListState) : Type 0 where
  pub once : IsDistinct nat_eq f.lines
  pub given : f.given ≤ length f.lines
  pub few : length f.lines + f.spare < 2 ^ 32
  pub order : is_some first ≡ false → others ≡ []
  pub room : f.spare + length f.lines ≤ places + length others + 1

-- the empty list, with this room
abbrev pub unmarked : ℕ → FlushListState
unmarked spare = record { lines = []; given = 0; spare = spare }

-- whether the line is one of these
abbrev pub is_listed : List ℕ → ℕ → Bool
is_listed lines line = list_any (nat_eq line) lines

-- the lines after a mark of this one: a listed line keeps its place, another joins at the end
abbrev pub listed_behind : List ℕ → ℕ → List ℕ
listed_behind lines line = if is_listed lines line then lines else lines ++ line ∷ []

-- the list after a mark of the line, which takes a place of the room where the line joins
abbrev pub marked : FlushListState → ℕ → FlushListState
marked f line = if is_listed f.lines line then f else record f { lines = f.lines ++ line ∷ []; spare = f.spare - 1 }

-- the list after marks of these lines, one after the other
abbrev pub marked_all : FlushListState → List ℕ → FlushListState
marked_all f [] = f
marked_all f (m ∷ ms) = marked_all (marked f m) ms

-- the first line that is not given yet
abbrev pub next_line : FlushListState → Option ℕ
next_line f = slice_get f.lines f.given

-- whether each line was given
abbrev pub is_all_given : FlushListState → Bool
is_all_given f = not (nat_lt f.given (length f.lines))

-- the list after its next line was given; where there is none it stays
abbrev pub passed : FlushListState → FlushListState
passed f = if nat_lt f.given (length f.lines) then record f { given = f.given + 1 } else f

-- the list without its lines, whose places are room again
abbrev pub cleared : FlushListState → FlushListState
cleared f = unmarked (f.spare + length f.lines)

-- marks without those of lines that were marked before: the lines in the order of their first marks
abbrev pub first_marks : List ℕ → List ℕ
first_marks [] = []
first_marks (m ∷ ms) = m ∷ filter (λ line. not (nat_eq line m)) (first_marks ms)
