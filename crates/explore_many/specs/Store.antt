-- A store of 15 variables: what its events do, and what its recovery does of the words that a cut left.
use Rattle.std.specs.Prelude.{ℕ, zero, suc, ◌+◌, ◌-◌, ◌^◌, Bool, nat_lt, nat_le, nat_eq, ◌&&◌, ◌||◌, Option, Some, None, List, [], ◌∷◌, ◌++◌, length, map, slice_index, slice_index_or, slice_set, if◌then◌else◌}
use Rattle.std.specs.Str.{bytes_eq}
use Rattle.line_memory.specs.Line.{LineState, line_at, loaded, stored, written_back, fenced, quiet_line, bank_stored, bank_written_back, bank_fenced}
use Rattle.crash_explorer.specs.Cut.{Cut, Recovery, bare}
use Rattle.explore_many.specs.declared.store.Event.{Event}
use Rattle.explore_many.specs.declared.store.Event.TheVariants.{Store, WriteBack, Fence}
use Rattle.explore_many.specs.declared.store.Running.{Running}

-- the store after an event; a store or a write-back where there is no line or no room changes nothing
abbrev pub happened : Event → Running → Running
happened (Store line word value) s = record s { bank = if nat_lt line (length s.bank.lines) && nat_lt word 8 && nat_lt 0 (line_at s.bank.lines line).spare then bank_stored s.bank line word value else s.bank }
happened (WriteBack line) s = record s { bank = if nat_lt line (length s.bank.lines) then bank_written_back s.bank line else s.bank }
happened Fence s = record s { bank = bank_fenced s.bank }

-- whether there is a further event
abbrev pub goes_on : Running → Bool
goes_on s = nat_lt s.at (length s.events.items)

-- the store after its next event
abbrev pub next : Running → Running
next s = happened (slice_index_or s.events.items s.at Fence) (record s { at = s.at + 1 })

-- whether a cell is torn at an epoch
abbrev pub is_torn : ℕ → LineState → Bool
is_torn epoch l = nat_eq (loaded l 2) epoch

-- lines behind a store, and behind a write-back
abbrev pub stored_at : List LineState → ℕ → ℕ → ℕ → List LineState
stored_at lines line word value = slice_set lines line (stored (line_at lines line) word value)

abbrev pub written_at : List LineState → ℕ → List LineState
written_at lines line = slice_set lines line (written_back (line_at lines line))

-- lines of which one was restored, where it was torn
abbrev pub restored : ℕ → List LineState → ℕ → List LineState
restored epoch lines line = if is_torn epoch (line_at lines line) then written_at (stored_at lines line 0 (loaded (line_at lines line) 1)) line else lines

-- the events of that
abbrev pub cost : ℕ → List LineState → ℕ → ℕ
cost epoch lines line = if is_torn epoch (line_at lines line) then 2 else 0

-- lines of which the first so many cells were restored, and the events of that
abbrev pub restored_to : ℕ → List LineState → ℕ → List LineState
restored_to epoch lines zero = lines
restored_to epoch lines (suc n) = restored epoch (restored_to epoch lines n) (suc n)

abbrev pub cost_to : ℕ → List LineState → ℕ → ℕ
cost_to epoch lines zero = 0
cost_to epoch lines (suc n) = cost_to epoch lines n + cost epoch (restored_to epoch lines n) (suc n)

-- lines behind the end of a recovery: a fence, the next epoch, its write-back and its fence
abbrev pub epoch_stored : ℕ → List LineState → List LineState
epoch_stored epoch lines = written_at (stored_at lines 0 0 (epoch + 1)) 0

abbrev pub fenced_all : List LineState → List LineState
fenced_all lines = bare (map fenced lines)

abbrev pub ended : ℕ → List LineState → List LineState
ended epoch lines = fenced_all (epoch_stored epoch (fenced_all lines))

-- the records of the first so many cells by load
abbrev pub records_to : List LineState → ℕ → List ℕ
records_to lines zero = []
records_to lines (suc n) = records_to lines n ++ loaded (line_at lines (suc n)) 0 ∷ []

-- the recovery of an epoch over lines
unfoldable pub recovery_over : ℕ → List LineState → Recovery
recovery_over epoch lines = record {
  events = cost_to epoch lines 15 + 4;
  lines = ended epoch (restored_to epoch lines 15);
  state = Some (records_to (ended epoch (restored_to epoch lines 15)) 15);
}

-- a recovery that refuses the words
abbrev pub no_recovery : Recovery
no_recovery = record { events = 0; lines = []; state = None }

-- the epoch that is left
abbrev pub epoch_of : List (List ℕ) → ℕ
epoch_of left = slice_index (slice_index_or left 0 []) 0

-- the recovery from words: of sixteen lines, where the epoch has a next one, in 34 steps or more
abbrev pub recovery_of : ℕ → List (List ℕ) → Recovery
recovery_of steps left = if nat_eq (length left) 16 && nat_lt (epoch_of left) (2 ^ 64 - 1) && nat_le 34 steps then recovery_over (epoch_of left) (map quiet_line left) else no_recovery

-- what a cut meets: it may recover to the first values until the epoch is closed, and to the last ones from the store of the next epoch on
abbrev pub cut_of : Running → Cut
cut_of s = record { lines = bare s.bank.lines; recovered = recovery_of; allows = λ state. (nat_lt s.at 64 && bytes_eq state s.first) || (nat_le 62 s.at && bytes_eq state s.last) }
