-- The room of a thread: one cell, whose record word 0 is the thread's position; a plan of the stores that are left of a write; an end.
use Rattle.std.specs.Prelude.{◌≡◌, ◌≢◌, ℕ, ◌+◌, ◌<◌, ◌≤◌, List, [], length}
use Rattle.line_memory.specs.Line.{LineState, line_at, bank_load, bank_with_spare}
use Rattle.room_model.specs.declared.write.PlannedStore.{PlannedStore}
use Rattle.room_model.specs.Chains.{RoomWords}
use Rattle.room_model.specs.Writes.{stored_in, write, write_stores}
use Rattle.incll_var.specs.Plans.{PlanState, IsPlanned, HasPlacesFor, filled, plan_behind}
use Rattle.incll_var.specs.Cells.{CellBankState, IsCellBank, IsRunning, epoch_of, places_of, played}
use Rattle.planned_cells.specs.Planned.{planned_words}
use Rattle.restart_point.specs.declared.thread_end.ThreadEnd.{ThreadEnd}

-- a thread's room: its cells, the stores that are left of a write, and its end
pub record ThreadRoomState : Type 0 where
  pub cells : CellBankState
  pub plan : PlanState
  pub end : ThreadEnd

-- the line of the room
abbrev pub line_in : ThreadRoomState → LineState
line_in room = line_at room.cells.bank.lines 0

-- the position by load
abbrev pub position_of : ThreadRoomState → ℕ
position_of room = bank_load room.cells.bank 0 0

-- the room behind all stores that are left of a write
abbrev pub room_behind : ThreadRoomState → RoomWords
room_behind room = stored_in (bank_load room.cells.bank) room.plan.stores

-- the position behind all stores that are left; where none is left, this is the one by load
abbrev pub position_behind : ThreadRoomState → ℕ
position_behind room = room_behind room 0 0

-- the words that the room means: behind the stores that are left; of a torn cell, what its restore brings back
abbrev pub words_of : ThreadRoomState → RoomWords
words_of room = planned_words room.cells room.plan

-- no store is left of a write
abbrev pub IsIdle : ThreadRoomState → Type 0
IsIdle room = room.plan.stores ≡ []

-- the cells run, no store is left of a write, and the line was not written to in the epoch
pub record IsUnwritten (room : ThreadRoomState) : Type 0 where
  pub running : IsRunning room.cells.state
  pub idle : IsIdle room
  pub quiet : (line_in room).pending ≡ []
  pub tag : bank_load room.cells.bank 0 6 ≢ epoch_of room.cells.state

-- the stores of a write of the position
abbrev pub position_stores : CellBankState → ℕ → List PlannedStore
position_stores cells position = write_stores (epoch_of cells.state) (bank_load cells.bank) [] (write 0 0 position)

-- the room behind the begin of a write of its position, with a new end
abbrev pub begun : ThreadRoomState → ℕ → ThreadEnd → ThreadRoomState
begun room position end = record { cells = room.cells; plan = filled room.plan (position_stores room.cells position); end = end }

-- the room behind the first store that is left
abbrev pub stepped : ThreadRoomState → ThreadRoomState
stepped room = record { cells = played room.cells room.plan.stores; plan = plan_behind room.plan; end = room.end }

-- these cells in the place of the room's
abbrev pub with_cells : ThreadRoomState → CellBankState → ThreadRoomState
with_cells room cells = record room { cells = cells }

-- these cells with room for so many more stores on their line
abbrev pub with_line_spare : CellBankState → ℕ → CellBankState
with_line_spare cells spare = record cells { bank = bank_with_spare cells.bank 0 spare }

-- stores that can be made one after the other on cells that run
pub record CanBePlayed (cells : CellBankState) (stores : List PlannedStore) : Type 0 where
  pub running : IsRunning cells.state
  pub planned : IsPlanned (epoch_of cells.state) cells.bank.lines stores
  pub room : HasPlacesFor cells.bank.lines stores

-- a thread's room: one cell; stores that are left can be made; the plan and the line have room for five stores in all
pub record IsThreadRoom (room : ThreadRoomState) : Type 0 where
  pub cells : IsCellBank room.cells
  pub one : length room.cells.bank.lines ≡ 1
  pub under_way : 0 < length room.plan.stores → CanBePlayed room.cells room.plan.stores
  pub plan_room : 5 ≤ length room.plan.stores + room.plan.spare
  pub line_room : 5 ≤ places_of (line_in room)
