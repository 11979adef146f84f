-- Rooms whose cells carry out commands: what such a room stands for, and what each call makes of it.
use Rattle.std.specs.Prelude.{◌≡◌, ℕ, ◌<◌, ◌≤◌, Option, Some, None, List, [], length}
use Rattle.seq_object.specs.declared.command.Command.{Command}
use Rattle.seq_object.specs.declared.command.Reply.{Reply}
use Rattle.seq_object.specs.declared.history.Entry.{Entry}
use Rattle.seq_object.specs.declared.settings.Settings.{Settings}
use Rattle.seq_object.specs.Sizes.{sizes_of, AreValid}
use Rattle.seq_object.specs.Object.{Contents, room_of}
use Rattle.line_memory.specs.Line.{BankState, bank_load}
use Rattle.room_model.specs.declared.write.PlannedStore.{PlannedStore}
use Rattle.room_model.specs.Chains.{RoomWords}
use Rattle.room_model.specs.MapRoom.{live_layout}
use Rattle.room_model.specs.Writes.{command_stores, answer_of}
use Rattle.room_model.specs.Walks.{contents_of, IsRoom}
use Rattle.incll_var.specs.declared.state.CellState.{CellState}
use Rattle.incll_var.specs.declared.state.CellState.TheVariants.{Running}
use Rattle.incll_var.specs.Cells.{CellBankState, IsCellBank, IsRunning, epoch_of, played, with_state}
use Rattle.incll_var.specs.Plans.{PlanState, IsPlanned, HasPlacesFor, plan_behind, cleared}
use Rattle.command_room.specs.declared.under_way.UnderWay.{UnderWay}
use Rattle.command_room.specs.Noted.{NotedState, none_noted, with_entry}
use Rattle.planned_cells.specs.Planned.{no_plan, words_in, planned_words, memory_words_in, saved_cells}
use Rattle.seq_object.specs.declared.sizes.Sizes.{Sizes}

-- a room: the settings of the memory that it is one of, its number, its cells with the plan of the stores that are left, the command
-- under way, and the entries of those that are done
pub record CommandRoomState : Type 0 where
  pub settings : Settings
  pub room : ℕ
  pub cells : CellBankState
  pub plan : PlanState
  pub under_way : Option UnderWay
  pub history : NotedState

-- the words that a room means
abbrev pub words_of : CommandRoomState → RoomWords
words_of s = planned_words s.cells s.plan

-- the words that memory holds of a room at the epoch of its cells: what is left of it wherever a cut comes
abbrev pub memory_words_of : CommandRoomState → RoomWords
memory_words_of s = memory_words_in s.cells

-- the sizes of the memory that a room is one of
abbrev pub sizes_in : CommandRoomState → Sizes
sizes_in s = sizes_of s.settings

-- what a room holds: a map room pairs and no item, the queue room items and no pair
abbrev pub contents_in : CommandRoomState → Contents
contents_in s = contents_of live_layout (sizes_in s) s.room (words_of s)

-- where a command is under way the cells run, and there is room for its entry; where none is, no store is left
abbrev pub IsGoing : Option UnderWay → CellState → List PlannedStore → ℕ → Type 0
IsGoing None state stores spare = stores ≡ []
IsGoing (Some under) state stores spare = IsRunning state × (0 < spare)

-- a room: of valid sizes and with as many lines, its words stand for what it holds, and the stores that are left may be made
pub record IsCommandRoom (s : CommandRoomState) : Type 0 where
  pub sizes : AreValid (sizes_in s)
  pub number : s.room ≤ s.settings.shards
  pub cells : IsCellBank s.cells
  pub lines : length s.cells.bank.lines ≡ s.settings.lines
  pub stands : IsRoom live_layout (sizes_in s) s.room (words_of s)
  pub planned : IsPlanned (epoch_of s.cells.state) s.cells.bank.lines s.plan.stores
  pub has_room : HasPlacesFor s.cells.bank.lines s.plan.stores
  pub going : IsGoing s.under_way s.cells.state s.plan.stores s.history.spare

-- cells that may be a room of this number: they have its lines, and their words stand for something
pub record MayBeRoom (settings : Settings) (room : ℕ) (cells : CellBankState) : Type 0 where
  pub sizes : AreValid (sizes_of settings)
  pub number : room ≤ settings.shards
  pub whole : IsCellBank cells
  pub lines : length cells.bank.lines ≡ settings.lines
  pub stands : IsRoom live_layout (sizes_of settings) room (words_in cells.state cells.bank [])

-- the room of these cells, with no command under way or done
abbrev pub new_room : Settings → ℕ → CellBankState → CommandRoomState
new_room settings room cells = record { settings = settings; room = room; cells = cells; plan = no_plan; under_way = None; history = none_noted }

-- the room with these cells
abbrev pub with_cells : CommandRoomState → CellBankState → CommandRoomState
with_cells s cells = record s { cells = cells }

-- the room with this plan
abbrev pub with_plan : CommandRoomState → PlanState → CommandRoomState
with_plan s plan = record s { plan = plan }

-- the room with nothing planned
abbrev pub unplanned : CommandRoomState → CommandRoomState
unplanned s = with_plan s (cleared s.plan)

-- the room with cells in another state
abbrev pub in_state : CommandRoomState → CellState → CommandRoomState
in_state s state = with_cells s (with_state s.cells state)

-- the room entered in this epoch
abbrev pub entered : CommandRoomState → ℕ → CommandRoomState
entered s epoch = in_state s (Running epoch)

-- the room with cells on this bank
abbrev pub on_bank : CommandRoomState → BankState → CommandRoomState
on_bank s bank = with_cells s (record s.cells { bank = bank })

-- the room with all that was pending in memory
abbrev pub closed : CommandRoomState → CommandRoomState
closed s = with_cells s (saved_cells s.cells)

-- the room with room for so many entries
abbrev pub with_entries : CommandRoomState → ℕ → CommandRoomState
with_entries s spare = record s { history = record s.history { spare = spare } }

-- the room in which a command with this reply is under way
abbrev pub going_on : CommandRoomState → Command → Reply → CommandRoomState
going_on s command reply = record s { under_way = Some (record { command = command; reply = reply }) }

-- the room with a command begun: room was made on this bank, and for so many entries
abbrev pub begun : CommandRoomState → BankState → ℕ → Command → Reply → CommandRoomState
begun s bank spare command reply = going_on (with_entries (on_bank s bank) spare) command reply

-- the room with the stores of a command planned, in its epoch and by its loads
abbrev pub commanded : CommandRoomState → Command → CommandRoomState
commanded s command = with_plan s (record s.plan { stores = command_stores live_layout (sizes_in s) (epoch_of s.cells.state) s.room (bank_load s.cells.bank) command })

-- a room that refused a command: nothing is planned, and some room was made, in the plan, on this bank and for so many entries
abbrev pub refused : CommandRoomState → ℕ → BankState → ℕ → CommandRoomState
refused s stores bank spare = with_entries (on_bank (with_plan s (record { stores = []; spare = stores })) bank) spare

-- the room behind the next store
abbrev pub stepped : CommandRoomState → CommandRoomState
stepped s = record s { cells = played s.cells s.plan.stores; plan = plan_behind s.plan }

-- the room behind the entry of its command
abbrev pub noted : CommandRoomState → ℕ → Entry → CommandRoomState
noted s ticket entry = record s { under_way = None; history = with_entry s.history (record { ticket = ticket; entry = entry }) }

-- the stores of a command of this room are planned in it, nothing is under way, and this is the command's reply by the room's words
pub record HasPlanned (s : CommandRoomState) (command : Command) (reply : Reply) : Type 0 where
  pub room : IsCommandRoom (unplanned s)
  pub idle : s.under_way ≡ None
  pub running : IsRunning s.cells.state
  pub mine : room_of (sizes_in s) command ≡ s.room
  pub stores : s.plan.stores ≡ command_stores live_layout (sizes_in s) (epoch_of s.cells.state) s.room (bank_load s.cells.bank) command
  pub answer : answer_of live_layout (sizes_in s) (bank_load s.cells.bank) command ≡ Some reply
