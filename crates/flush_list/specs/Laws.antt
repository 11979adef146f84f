-- Laws on flush lists.
use Rattle.std.specs.Prelude.{◌≡◌, ℕ, zero, suc, ◌≤◌, nat_eq, List, [], ◌++◌, length}
use Rattle.std.specs.List.{IsDistinct}
use Rattle.flush_list.specs.Lists.{FlushListState, unmarked, is_listed, marked_all, one_or_none, next_line, passed, first_marks}

-- the lines that so many calls of `next` give, one after the other
abbrev pub given_by : FlushListState → ℕ → List ℕ
given_by f zero = []
given_by f (suc calls) = one_or_none (next_line f) ++ given_by (passed f) calls

-- the lines of a list that was empty are those marked, in the order of their first marks
abbrev pub FirstMarksLaw : Type 0
FirstMarksLaw = (spare : ℕ) (marks : List ℕ) → (marked_all (unmarked spare) marks).lines ≡ first_marks marks

-- each marked line is among the first marks, and no other
abbrev pub MarkedLaw : Type 0
MarkedLaw = (marks : List ℕ) (line : ℕ) → is_listed (first_marks marks) line ≡ is_listed marks line

-- no line is twice among the first marks
abbrev pub OnceLaw : Type 0
OnceLaw = (marks : List ℕ) → IsDistinct nat_eq (first_marks marks)

-- enough calls of `next` give the lines in the order of their first marks
abbrev pub GivenLaw : Type 0
GivenLaw = (spare : ℕ) (marks : List ℕ) (calls : ℕ) → length (first_marks marks) ≤ calls
    → given_by (marked_all (unmarked spare) marks) calls ≡ first_marks marks
