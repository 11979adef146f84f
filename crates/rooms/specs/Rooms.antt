-- The rooms of a memory: what every room has, what the calls of a room of cells make of it, and readings of its lines.
use Rattle.std.specs.Prelude.{◌≡◌, ℕ, ◌<◌, ◌==◌, Bool, None, List, [], ◌∷◌, length}
use Rattle.seq_object.specs.declared.settings.Settings.{Settings}
use Rattle.seq_object.specs.declared.history.Noted.{Noted}
use Rattle.seq_object.specs.Sizes.{sizes_of, super_room, line_count}
use Rattle.line_memory.specs.Line.{BankState, bank_load, unasked}
use Rattle.room_model.specs.Chains.{RoomWords}
use Rattle.incll_var.specs.declared.state.CellState.{CellState}
use Rattle.incll_var.specs.declared.state.CellState.TheVariants.{Saved}
use Rattle.incll_var.specs.Cells.{CellBankState, cells_in}
use Rattle.restart_point.specs.declared.thread_end.ThreadEnd.{ThreadEnd}
use Rattle.restart_point.specs.declared.thread_end.ThreadEnd.TheVariants.{Ready}
use Rattle.command_room.specs.Room.{words_of as command_words, with_cells as with_command_cells}
use Rattle.locked_map.specs.Room.{IsMap}
use Rattle.locked_queue.specs.Queue.{IsQueue}
use Rattle.restart_point.specs.Rooms.{IsThreadRoom, words_of as thread_words, with_cells as with_thread_cells}
use Rattle.epoch_word.specs.SuperLine.{IsSuperRoom}
use Rattle.rooms.specs.declared.room.Room.{Room}
use Rattle.rooms.specs.declared.room.Room.TheVariants.{Map, Queue, Thread, Super}

-- What every room has. Where a room has none of its own, what stands for nothing.

-- its cells
abbrev pub cells_of : Room → CellBankState
cells_of (Map x) = x.cells
cells_of (Queue x) = x.cells
cells_of (Thread x) = x.cells
cells_of (Super x) = cells_in (Saved 0) x

-- its lines, with the count of its write-backs
abbrev pub bank_of : Room → BankState
bank_of x = (cells_of x).bank

-- the state of its cells
abbrev pub state_of : Room → CellState
state_of x = (cells_of x).state

-- the room with these cells in the place of its own; the super room has none
abbrev pub with_cells : Room → CellBankState → Room
with_cells (Map x) cells = Map (with_command_cells x cells)
with_cells (Queue x) cells = Queue (with_command_cells x cells)
with_cells (Thread x) cells = Thread (with_thread_cells x cells)
with_cells (Super x) cells = Super x

-- the words that it means: behind the stores that are left, and of torn cells what their restore brings back
abbrev pub words_of : Room → RoomWords
words_of (Map x) = command_words x
words_of (Queue x) = command_words x
words_of (Thread x) = thread_words x
words_of (Super x) = bank_load x

-- it has cells of its own
abbrev pub HasCells : Room → Type 0
HasCells (Map x) = Unit {0}
HasCells (Queue x) = Unit {0}
HasCells (Thread x) = Unit {0}
HasCells (Super x) = ⊥

-- what the crate of its kind keeps of it
abbrev pub IsWhole : Room → Type 0
IsWhole (Map x) = IsMap x
IsWhole (Queue x) = IsQueue x
IsWhole (Thread x) = IsThreadRoom x
IsWhole (Super x) = IsSuperRoom x

-- the entries of its commands that are done
abbrev pub history_of : Room → List Noted
history_of (Map x) = x.history.entries
history_of (Queue x) = x.history.entries
history_of (Thread x) = []
history_of (Super x) = []

-- its thread's end
abbrev pub end_of : Room → ThreadEnd
end_of (Map x) = Ready
end_of (Queue x) = Ready
end_of (Thread x) = x.end
end_of (Super x) = Ready

-- no command and no write is under way, and no store is left of one
abbrev pub IsIdle : Room → Type 0
IsIdle (Map x) = (x.under_way ≡ None) × (x.plan.stores ≡ [])
IsIdle (Queue x) = (x.under_way ≡ None) × (x.plan.stores ≡ [])
IsIdle (Thread x) = x.plan.stores ≡ []
IsIdle (Super x) = Unit {0}

-- the room is of the kind that its number says
abbrev pub IsKindOf : Settings → ℕ → Room → Type 0
IsKindOf s r (Map x) = (r < s.shards) × (x.room ≡ r) × (x.settings ≡ s)
IsKindOf s r (Queue x) = (r ≡ s.shards) × (x.room ≡ r) × (x.settings ≡ s)
IsKindOf s r (Thread x) = (s.shards < r) × (r < super_room (sizes_of s))
IsKindOf s r (Super x) = r ≡ super_room (sizes_of s)

-- a room of this number: it is of its kind, and has its lines
pub record IsRoomOf (s : Settings) (r : ℕ) (x : Room) : Type 0 where
  pub kind : IsKindOf s r x
  pub lines : length (bank_of x).lines ≡ line_count (sizes_of s) r

-- Two readings of a room by line and word.

-- by loads
abbrev pub loads : Room → RoomWords
loads x = bank_load (bank_of x)

-- whether the queue room is empty by its loads: no line is the first
abbrev pub is_empty_queue : Room → Bool
is_empty_queue x = loads x 1 0 == 0

-- how many lines were stored to and not yet written back
abbrev pub lines_unasked : Room → ℕ
lines_unasked x = unasked (bank_of x).lines
