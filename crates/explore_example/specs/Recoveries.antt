-- What a recovery of the words that a cut left does, event by event, and what it comes to.
use Rattle.std.specs.Prelude.{ℕ, ◌-◌, ◌^◌, nat_lt, nat_le, nat_eq, ◌&&◌, min, Option, Some, None, List, [], ◌∷◌, length, map, take, slice_index, slice_index_or, slice_set, if◌then◌else◌}
use Rattle.line_memory.specs.Line.{LineState, line_at, loaded, stored, written_back, fenced, quiet_line}
use Rattle.crash_explorer.specs.Cut.{Recovery, bare}
use Rattle.explore_example.specs.declared.event.Event.{Event}
use Rattle.explore_example.specs.declared.event.Event.TheVariants.{Write, Store, WriteBack, Fence, Closing, Closed}
use Rattle.explore_example.specs.declared.mistake.Mistake.{Mistake}
use Rattle.explore_example.specs.Events.{recovery_events}

-- the lines, without their room, after an event of recovery
abbrev pub worked : Event → List LineState → List LineState
worked (Write variable value) lines = lines
worked (Store line word value) lines = if nat_lt line (length lines) && nat_lt word 8 then slice_set lines line (stored (line_at lines line) word value) else lines
worked (WriteBack line) lines = if nat_lt line (length lines) then slice_set lines line (written_back (line_at lines line)) else lines
worked Fence lines = bare (map fenced lines)
worked Closing lines = lines
worked Closed lines = lines

-- after several
abbrev pub all_worked : List Event → List LineState → List LineState
all_worked [] lines = lines
all_worked (e ∷ es) lines = all_worked es (worked e lines)

-- the records of the two cells by load
abbrev pub records_of : List LineState → Option (List ℕ)
records_of lines = if nat_eq (length lines) 3 then Some (loaded (line_at lines 1) 0 ∷ loaded (line_at lines 2) 0 ∷ []) else None

-- the words of a line that is left
abbrev pub words_of : List (List ℕ) → ℕ → List ℕ
words_of left i = slice_index_or left i []

-- the epoch that is left
abbrev pub epoch_of : List (List ℕ) → ℕ
epoch_of left = slice_index (words_of left 0) 0

-- the first so many of these events, where a cut left these words
abbrev pub recovery_by : List Event → ℕ → List (List ℕ) → Recovery
recovery_by events steps left = record {
  events = min (length events) steps;
  lines = all_worked (take (min (length events) steps) events) (map quiet_line left);
  state = if nat_le (length events) steps then records_of (all_worked (take (min (length events) steps) events) (map quiet_line left)) else None;
}

-- a recovery that refuses the words
abbrev pub no_recovery : Recovery
no_recovery = record { events = 0; lines = []; state = None }

-- the recovery from words: of three lines, where the epoch has a next one
abbrev pub recovery_of : Mistake → ℕ → List (List ℕ) → Recovery
recovery_of mistake steps left = if nat_eq (length left) 3 && nat_lt (epoch_of left) (2 ^ 64 - 1) then recovery_by (recovery_events mistake (epoch_of left) (words_of left 1) (words_of left 2)) steps left else no_recovery
