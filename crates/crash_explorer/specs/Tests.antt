-- What the store of the tests does: one line, on which two words are set one after the other.
use Rattle.std.specs.Prelude.{ℕ, zero, suc, Bool, not, nat_lt, nat_le, nat_eq, ◌&&◌, ◌||◌, Some, None, List, [], ◌∷◌, length, map, min, slice_index, slice_index_or, slice_set, if◌then◌else◌}
use Rattle.line_memory.specs.Line.{LineState, BankState, line_at, bank_stored, stored, quiet_line}
use Rattle.crash_explorer.specs.Cut.{Cut, Recovery, bare}

-- a bank after a word of its line is set to a value; one without a line or without room stays as it is
abbrev pub word_set : BankState → ℕ → ℕ → BankState
word_set bank word value = if nat_lt 0 (length bank.lines) && nat_lt 0 (line_at bank.lines 0).spare then bank_stored bank 0 word value else bank

-- the first two words of a line
abbrev pub first_two : List ℕ → List ℕ
first_two line = slice_index line 0 ∷ slice_index line 1 ∷ []

-- lines after a store to word 1 of the first
abbrev pub put : List LineState → ℕ → List LineState
put lines value = slice_set lines 0 (stored (line_at lines 0) 1 value)

-- the lines in work behind so many events of recovery: word 1 is set to 9, and then to what it was
abbrev pub worked : ℕ → List (List ℕ) → List LineState
worked zero left = map quiet_line left
worked (suc zero) left = put (map quiet_line left) 9
worked (suc (suc n)) left = put (put (map quiet_line left) 9) (slice_index (slice_index_or left 0 []) 1)

-- how many events recovery has
abbrev pub event_count : Bool → ℕ
event_count is_careless = if is_careless then 2 else 0

-- recovery of words without their one line
abbrev pub no_recovery : Recovery
no_recovery = record { events = 0; lines = []; state = None }

-- recovery of the one line that is left
abbrev pub recovery_of : Bool → ℕ → List (List ℕ) → Recovery
recovery_of is_careless steps left = if nat_eq (length left) 1 then record {
  events = min steps (event_count is_careless);
  lines = worked (min steps (event_count is_careless)) left;
  state = if nat_le (event_count is_careless) steps then Some (first_two (slice_index_or left 0 [])) else None;
} else no_recovery

-- the states that are allowed: word 1 is below a limit, and both words are the same where that is asked for
abbrev pub allowed_by : Bool → ℕ → List ℕ → Bool
allowed_by is_both limit state = nat_eq (length state) 2 && nat_lt (slice_index state 1) limit && (not is_both || nat_eq (slice_index state 0) (slice_index state 1))

-- what a cut meets
abbrev pub cut_of : List LineState → Bool → (List ℕ → Bool) → Cut
cut_of lines is_careless allows = record { lines = bare lines; recovered = recovery_of is_careless; allows = allows }
