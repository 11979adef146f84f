-- What a choice leaves of a memory, with its lines numbered through all rooms; and a memory made of an image.
use Rattle.std.specs.Prelude.{ℕ, List, take, map}
use Rattle.line_memory.specs.Line.{BankState, bank_at, all_lines, quiet_bank}
use Rattle.room_model.specs.Image.{ImageRooms as Rooms, KeptCounts as Choosing}
use Rattle.store_order.specs.declared.choice.Choice.{Choice}
use Rattle.store_order.specs.Choice.{kept_of}

-- the number of a room's first line, through all rooms: how many lines the rooms before it have
abbrev pub first_line : List BankState → ℕ → ℕ
first_line memory room = all_lines (take room memory)

-- how many of its pending stores each line of a memory keeps, by room and line
abbrev pub choosing : Choice → List BankState → Choosing
choosing choice memory = λ room line. kept_of choice (first_line memory room) (bank_at memory room).lines line

-- a memory with these words in its lines and nothing pending
abbrev pub quiet_memory : Rooms → List BankState
quiet_memory rooms = map quiet_bank rooms
