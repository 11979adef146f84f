-- Laws on rooms of any kind: how many lines a room has, and what stays where its cells change.
use Rattle.std.specs.Prelude.{◌≡◌, ℕ, ◌<◌, ◌≤◌, length}
use Rattle.seq_object.specs.declared.settings.Settings.{Settings}
use Rattle.seq_object.specs.Sizes.{line_count}
use Rattle.incll_var.specs.Cells.{CellBankState}
use Rattle.rooms.specs.declared.room.Room.{Room}
use Rattle.rooms.specs.Rooms.{bank_of, cells_of, with_cells, history_of, end_of, HasCells, IsIdle, IsRoomOf}
use Rattle.seq_object.specs.declared.sizes.Sizes.{Sizes}

-- a shard's room and the queue room have the lines of the settings
abbrev pub CommandLinesLaw : Type 0
CommandLinesLaw = (z : Sizes) (room : ℕ) → room ≤ z.shards → line_count z room ≡ z.lines

-- a thread's room and the super room have one line
abbrev pub OneLineLaw : Type 0
OneLineLaw = (z : Sizes) (room : ℕ) → z.shards < room → line_count z room ≡ 1

-- a room of cells that is given other cells has these
abbrev pub OtherCellsLaw : Type 0
OtherCellsLaw = (x : Room) (cells : CellBankState) → HasCells x → cells_of (with_cells x cells) ≡ cells

-- it stays the room of its number, where they are as many
abbrev pub SameNumberLaw : Type 0
SameNumberLaw = (s : Settings) (r : ℕ) (x : Room) (cells : CellBankState) → IsRoomOf s r x → length cells.bank.lines ≡ length (bank_of x).lines → IsRoomOf s r (with_cells x cells)

-- its entries and its thread's end stay, and it stays idle
abbrev pub SameElseLaw : Type 0
SameElseLaw = (x : Room) (cells : CellBankState) → (history_of (with_cells x cells) ≡ history_of x) × (end_of (with_cells x cells) ≡ end_of x) × (IsIdle x → IsIdle (with_cells x cells))
