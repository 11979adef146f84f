-- Laws on rooms that carry out commands: how far the stores of a command are made, and how commands are planned.
use Rattle.std.specs.Prelude.{◌≡◌, ℕ, ◌+◌, ◌<◌, ◌≤◌, None, List, [], length, take, drop}
use Rattle.seq_object.specs.declared.command.Command.{Command}
use Rattle.seq_object.specs.declared.command.Reply.{Reply}
use Rattle.seq_object.specs.declared.settings.Settings.{Settings}
use Rattle.seq_object.specs.Sizes.{sizes_of, AreValid}
use Rattle.seq_object.specs.Object.{Contents, part_of}
use Rattle.line_memory.specs.Line.{BankState, bank_load}
use Rattle.room_model.specs.declared.write.PlannedStore.{PlannedStore}
use Rattle.room_model.specs.declared.write.Write.{Write}
use Rattle.room_model.specs.Chains.{RoomWords, HasSameRecords}
use Rattle.room_model.specs.MapRoom.{live_layout}
use Rattle.room_model.specs.Rooms.{StandsFor}
use Rattle.room_model.specs.Formatted.{formatted, first_node}
use Rattle.room_model.specs.Writes.{stored_in, stores_behind, AreWithin}
use Rattle.incll_var.specs.Cells.{CellBankState, IsCellBank, IsRunning, IsSaved, HasSameCells, epoch_of}
use Rattle.incll_var.specs.Plans.{PlanState, IsPlanned}
use Rattle.command_room.specs.Room.{IsCommandRoom, MayBeRoom, words_of, sizes_in, contents_in, with_plan, unplanned, begun, stepped, CommandRoomState}

-- of these stores, planned by these loads, the first n are made in the room, and the others are left
pub record HasMade (r : RoomWords) (stores : List PlannedStore) (n : ℕ) (s : CommandRoomState) : Type 0 where
  pub loads : bank_load s.cells.bank ≡ stored_in r (take n stores)
  pub left : s.plan.stores ≡ drop n stores

-- of a command that is begun no store is made
abbrev pub NoneMadeLaw : Type 0
NoneMadeLaw = (s : CommandRoomState) (bank : BankState) (spare : ℕ) (command : Command) (reply : Reply) → HasSameCells s.cells.bank bank
    → HasMade (bank_load s.cells.bank) s.plan.stores 0 (begun s bank spare command reply)

-- a step makes one store more
abbrev pub OneMoreMadeLaw : Type 0
OneMoreMadeLaw = (s : CommandRoomState) (r : RoomWords) (stores : List PlannedStore) (n : ℕ) → IsCommandRoom s → 0 < length s.plan.stores
    → HasMade r stores n s → HasMade r stores (n + 1) (stepped s)

-- where no store is left the loads are those behind all stores
abbrev pub AllMadeLaw : Type 0
AllMadeLaw = (s : CommandRoomState) (r : RoomWords) (stores : List PlannedStore) (n : ℕ) → s.plan.stores ≡ []
    → HasMade r stores n s → bank_load s.cells.bank ≡ stored_in r stores

-- a room without a command under way may plan what it likes, and drop it
abbrev pub PlanningLaw : Type 0
PlanningLaw = (s : CommandRoomState) (plan : PlanState) → IsCommandRoom s → s.under_way ≡ None → IsCommandRoom (unplanned (with_plan s plan))

-- writes that go to record words of lines of running cells may be made one after the other, behind what may be made already
abbrev pub WritesPlannedLaw : Type 0
WritesPlannedLaw = (cells : CellBankState) (stores : List PlannedStore) (writes : List Write) → IsCellBank cells → IsRunning cells.state → AreWithin (length cells.bank.lines) writes
    → IsPlanned (epoch_of cells.state) cells.bank.lines stores → IsPlanned (epoch_of cells.state) cells.bank.lines (stores_behind (epoch_of cells.state) (bank_load cells.bank) stores writes)

-- a room stands for all that the object may hold of which the room holds its part
abbrev pub WholeLaw : Type 0
WholeLaw = (s : CommandRoomState) (c : Contents) → IsCommandRoom s → contents_in s ≡ part_of (sizes_in s) s.room c → StandsFor live_layout (sizes_in s) s.room (words_of s) c

-- a room of which the words keep their records holds what it held
abbrev pub SameContentsLaw : Type 0
SameContentsLaw = (s t : CommandRoomState) → IsCommandRoom s → t.settings ≡ s.settings → t.room ≡ s.room → HasSameRecords (words_of t) (words_of s) → contents_in t ≡ contents_in s

-- saved cells whose loads are those of a formatted room may be a room
abbrev pub FormattedRoomLaw : Type 0
FormattedRoomLaw = (settings : Settings) (room : ℕ) (cells : CellBankState) → AreValid (sizes_of settings) → room ≤ settings.shards → IsCellBank cells → length cells.bank.lines ≡ settings.lines → IsSaved cells.state
    → HasSameRecords (bank_load cells.bank) (formatted (first_node live_layout (sizes_of settings) room)) → MayBeRoom settings room cells
