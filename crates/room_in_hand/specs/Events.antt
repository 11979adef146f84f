-- What each event of a closing makes of a room in hand, and what the room is then used for.
use Rattle.std.specs.Prelude.{◌+◌, nat_lt, Bool, true, false}
use Rattle.line_memory.specs.Line.{BankState, bank_stored, bank_written_back, bank_fenced}
use Rattle.room_model.specs.EpochLine.{loaded_epoch}
use Rattle.incll_var.specs.Cells.{closing_state, with_state, next_in}
use Rattle.planned_cells.specs.Planned.{with_bank, saved_cells}
use Rattle.rooms.specs.declared.room.Room.{Room}
use Rattle.rooms.specs.Rooms.{cells_of, bank_of, state_of, with_cells, lines_unasked}
use Rattle.room_in_hand.specs.InHand.{RoomUse, flushing, flushed, shut}

-- whether lines are left to be written back
abbrev pub has_lines : Room → Bool
has_lines x = nat_lt 0 (lines_unasked x)

-- the stores of the epoch are ended; where none was made the room is in memory
abbrev pub begun : Room → Room
begun x = with_cells x (with_state (cells_of x) (closing_state (lines_unasked x) (state_of x)))

abbrev pub begun_use : Bool → RoomUse
begun_use true = flushing
begun_use false = shut

-- the line whose first store came first is written back
abbrev pub written : Room → Room
written x = with_cells x (with_bank (cells_of x) (bank_written_back (bank_of x) (next_in (cells_of x))))

abbrev pub written_use : Bool → RoomUse
written_use true = flushing
written_use false = flushed

-- what was written back is in memory
abbrev pub fenced : Room → Room
fenced x = with_cells x (saved_cells (cells_of x))

-- the next epoch is stored, it is written back, and it is in memory
abbrev pub epoch_stored : BankState → BankState
epoch_stored bank = bank_stored bank 0 0 (loaded_epoch bank + 1)

abbrev pub epoch_written : BankState → BankState
epoch_written bank = bank_written_back bank 0

abbrev pub epoch_fenced : BankState → BankState
epoch_fenced bank = bank_fenced bank
