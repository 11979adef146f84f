-- What a store's events do, what a cut of it meets, and which states are allowed.
use Rattle.std.specs.Prelude.{ℕ, ◌+◌, ◌-◌, Bool, true, false, nat_lt, nat_eq, ◌&&◌, ◌||◌, Option, None, List, length, slice_get, slice_index_or, slice_set, if◌then◌else◌}
use Rattle.std.specs.Str.{bytes_eq}
use Rattle.line_memory.specs.Line.{line_at, bank_stored, bank_written_back, bank_fenced}
use Rattle.crash_explorer.specs.Cut.{Cut, bare}
use Rattle.explore_example.specs.Recoveries.{recovery_of}
use Rattle.explore_example.specs.declared.event.Event.{Event}
use Rattle.explore_example.specs.declared.event.Event.TheVariants.{Write, Store, WriteBack, Fence, Closing, Closed}
use Rattle.explore_example.specs.declared.running.Running.{Running}

-- the store after an event; a store or a write-back where there is no line or no room changes nothing
abbrev pub happened : Event → Running → Running
happened (Write variable value) s = record s { values = if nat_lt variable 2 then slice_set s.values variable value else s.values }
happened (Store line word value) s = record s { bank = if nat_lt line (length s.bank.lines) && nat_lt word 8 && nat_lt 0 (line_at s.bank.lines line).spare then bank_stored s.bank line word value else s.bank }
happened (WriteBack line) s = record s { bank = if nat_lt line (length s.bank.lines) then bank_written_back s.bank line else s.bank }
happened Fence s = record s { bank = bank_fenced s.bank }
happened Closing s = record s { is_closing = true }
happened Closed s = record s { saved = s.values; is_closing = false }

-- whether there is a further event
abbrev pub goes_on : Running → Bool
goes_on s = nat_lt s.at (length s.events.items)

-- the store after its next event
abbrev pub next : Running → Running
next s = happened (slice_index_or s.events.items s.at Fence) (record s { at = s.at + 1 })

-- the event that happened last, if there was one
abbrev pub last_event : Running → Option Event
last_event s = if nat_eq s.at 0 then None else slice_get s.events.items (s.at - 1)

-- whether a cut may recover to this state: the last checkpoint, or the next one while a closing is under way
abbrev pub allows : Running → List ℕ → Bool
allows s state = bytes_eq state s.saved || (s.is_closing && bytes_eq state s.values)

-- what a cut meets
abbrev pub cut_of : Running → Cut
cut_of s = record { lines = bare s.bank.lines; recovered = recovery_of s.mistake; allows = allows s }
