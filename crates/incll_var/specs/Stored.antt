-- The lines that were stored to in an epoch, in the order of their first stores, which is the order of a closing.
use Rattle.std.specs.Prelude.{◌≡◌, ℕ, zero, suc, ◌+◌, ◌<◌, ◌≤◌, Bool, true, false, nat_eq, nat_lt, List, [], ◌∷◌, length, count_by, if◌then◌else◌}
use Rattle.std.specs.List.{IsDistinct}
use Rattle.flush_list.specs.Lists.{FlushListState, is_listed}
use Rattle.line_memory.specs.Line.{LineState, line_at, is_pending, is_unasked}

-- these are the lines with something pending, each once
pub record AreStored (lines : List LineState) (stored : List ℕ) : Type 0 where
  pub once : IsDistinct nat_eq stored
  pub exact : (line : ℕ) → is_listed stored line ≡ is_pending (line_at lines line)

-- the first so many of these are written back, and each other one has something pending that was not asked for
abbrev pub AreWritten : ℕ → List LineState → List ℕ → Type 0
AreWritten n lines [] = Unit {0}
AreWritten zero lines (line ∷ stored) = (is_unasked (line_at lines line) ≡ true) × AreWritten zero lines stored
AreWritten (suc n) lines (line ∷ stored) = (is_unasked (line_at lines line) ≡ false) × AreWritten n lines stored

-- the first of these are written back, and no other
abbrev pub AreFirstWritten : List LineState → List ℕ → Type 0
AreFirstWritten lines stored = (n : ℕ) × AreWritten n lines stored

-- the first of these with something that was not asked for
abbrev pub first_unasked : List LineState → List ℕ → ℕ
first_unasked lines [] = 0
first_unasked lines (line ∷ stored) = if is_unasked (line_at lines line) then line else first_unasked lines stored

-- whether a store is pending on the line or has a place
abbrev pub has_places : LineState → Bool
has_places l = nat_lt 0 (length l.pending + l.spare)

-- a list that a bank keeps: it has given the lines that are written back, and has a place for each line that can be stored to
pub record KeepsList (lines : List LineState) (list : FlushListState) : Type 0 where
  pub given : AreWritten list.given lines list.lines
  pub within : list.given ≤ length list.lines
  pub places : count_by has_places lines ≤ length list.lines + list.spare
  pub some : 0 < length list.lines + list.spare
