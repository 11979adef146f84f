-- What a power cut may leave of lines.
use Rattle.std.specs.Prelude.{◌≡◌, ℕ, ◌≤◌, ◌<◌, List, [], length, slice_index_or}
use Rattle.line_memory.specs.Line.{LineState, BankState, survivor, line_at}
use Rattle.room_model.specs.Image.{surviving_lines}
use Rattle.store_order.specs.declared.choice.Choice.{Choice}
use Rattle.store_order.specs.Choice.{kept_of}

-- these words are a survivor of the line: its base with some first part of its pending stores made
abbrev pub IsSurvivor : LineState → List ℕ → Type 0
IsSurvivor l words = (k : ℕ) × (k ≤ length l.pending) × (words ≡ survivor l k)

-- as many lines of words as the bank has lines, and each is a survivor of its line
pub record MayBeLeft (bank : BankState) (lines : List (List ℕ)) : Type 0 where
  pub count : length lines ≡ length bank.lines
  pub each : (i : ℕ) → i < length bank.lines → IsSurvivor (line_at bank.lines i) (slice_index_or lines i [])

-- what a choice leaves of the lines of a bank may be left, whichever choice it is and whatever number the first line has
abbrev pub LeavesSurvivorsLaw : Type 0
LeavesSurvivorsLaw = (choice : Choice) (first : ℕ) (bank : BankState) → MayBeLeft bank (surviving_lines (kept_of choice first bank.lines) 0 bank.lines)
