-- The lines of a bank with something asked for, which it keeps in a list.
use Rattle.std.specs.Prelude.{◌≡◌, ℕ, ◌<◌, ◌≤◌, Bool, true, nat_eq, nat_lt, ◌&&◌, List, [], ◌∷◌, length, min, sum_by, slice_set}
use Rattle.std.specs.List.{list_any}
use Rattle.line_memory.specs.Line.{LineState, line_at, fenced}

-- whether a write-back of the line asks for a first store: one is pending, and none is asked for
abbrev pub is_first_ask : LineState → Bool
is_first_ask l = nat_eq l.asked 0 && nat_lt 0 (length l.pending)

-- 1 for a line with something asked for, else 0
abbrev pub asks_once : LineState → ℕ
asks_once l = min 1 l.asked

-- each of these is the number of a line
abbrev pub AreWithin : List LineState → List ℕ → Type 0
AreWithin lines [] = Unit {0}
AreWithin lines (line ∷ asked) = (line < length lines) × AreWithin lines asked

-- each line with something asked for is one of these
abbrev pub AreAllAsked : List LineState → List ℕ → Type 0
AreAllAsked lines asked = (line : ℕ) → 0 < (line_at lines line).asked → list_any (nat_eq line) asked ≡ true

-- a list of the lines with something asked for: as many as these are, with places for all lines
pub record HasAsked (lines : List LineState) (asked : List ℕ) (room : ℕ) : Type 0 where
  pub within : AreWithin lines asked
  pub all : AreAllAsked lines asked
  pub count : length asked ≡ sum_by asks_once lines
  pub places : length lines ≤ room

-- the lines after a fence of each of these alone
abbrev pub fenced_at : List ℕ → List LineState → List LineState
fenced_at [] lines = lines
fenced_at (line ∷ asked) lines = fenced_at asked (slice_set lines line (fenced (line_at lines line)))
