-- A room in hand: what holds of it by what it is used for, and by what its holder knows of it.
use Rattle.std.specs.Prelude.{◌≡◌, ℕ, ◌+◌, ◌*◌, ◌<◌, ◌≤◌, ◌^◌, false, Some, None, length}
use Rattle.seq_object.specs.declared.history.RestartPoint.{RestartPoint}
use Rattle.seq_object.specs.Sizes.{sizes_of}
use Rattle.seq_object.specs.Object.{room_of, reply_to, contents_after}
use Rattle.line_memory.specs.Line.{BankState, unasked, is_unasked_in}
use Rattle.room_model.specs.Chains.{RoomWords}
use Rattle.room_model.specs.MapRoom.{live_layout}
use Rattle.room_model.specs.Rooms.{StandsFor, point_in}
use Rattle.room_model.specs.Banks.{memory_words}
use Rattle.room_model.specs.Writes.{command_stores, newly_pending}
use Rattle.incll_var.specs.declared.state.CellState.TheVariants.{Running, Closing}
use Rattle.incll_var.specs.Cells.{IsSavedIn}
use Rattle.epoch_word.specs.declared.stage.EpochStage.{EpochStage}
use Rattle.epoch_word.specs.declared.stage.EpochStage.TheVariants.{Before, Stored, AskedFor, InMemory}
use Rattle.epoch_word.specs.Stages.{IsAtStage}
use Rattle.command_room.specs.declared.under_way.UnderWay.{UnderWay}
use Rattle.command_room.specs.Room.{CommandRoomState, words_of as command_words}
use Rattle.command_room.specs.Laws.{HasMade}
use Rattle.restart_point.specs.declared.thread_end.ThreadEnd.{ThreadEnd}
use Rattle.restart_point.specs.Rooms.{ThreadRoomState, room_behind}
use Rattle.rooms.specs.declared.room.Room.{Room}
use Rattle.rooms.specs.declared.room.Room.TheVariants.{Map, Queue, Thread, Super}
use Rattle.rooms.specs.Rooms.{IsRoomOf, IsWhole, IsIdle, HasCells, bank_of, state_of, words_of, history_of, end_of, lines_unasked}
use Rattle.yard_model.specs.declared.view.TakenPosition.{TakenPosition}
use Rattle.yard_model.specs.Homes.{IsFreeState, free_bound}
use Rattle.room_in_hand.specs.Known.{Knowledge}

-- What a room in hand is used for.
pub data RoomUse : Type 0 where
  -- nothing is under way in it, and it may be entered or closed
  resting : RoomUse
  -- a closing writes its lines back
  flushing : RoomUse
  -- all its lines are written back
  flushed : RoomUse
  -- it is in memory
  shut : RoomUse
  -- the next epoch is written to it, and this is how far that has come
  writing_epoch : EpochStage → RoomUse
  -- this command is under way in it
  working : UnderWay → RoomUse
  -- this restart point is written to it, with this end
  writing_point : RestartPoint → ThreadEnd → RoomUse

-- What holds of it whatever it is used for: it has its history, and memory has of it what it had.
pub record KeepsRoom (k : Knowledge) (x : Room) : Type 0 where
  pub whole : IsWhole x
  pub room : IsRoomOf k.settings k.room x
  pub history : history_of x ≡ k.history
  -- memory has what the last mark covers
  pub in_memory : k.room ≤ k.settings.shards → StandsFor live_layout (sizes_of k.settings) k.room (memory_words k.epoch (bank_of x)) k.covered
  -- of a thread's room the restart point that it had
  pub point_in_memory : (t : TakenPosition) → k.position ≡ Some t → point_in live_layout (memory_words k.epoch (bank_of x)) ≡ t.in_memory
  -- of a room of commands no position was taken
  pub no_position : k.room ≤ k.settings.shards → k.position ≡ None
  -- its write-backs are no fewer than at the beginning
  pub no_fewer : k.opened ≤ (bank_of x).write_backs
  -- which were a number of 64 bits
  pub counted : k.opened < 2 ^ 64

-- What holds of a room of cells in which nothing is under way.
pub record IsResting (k : Knowledge) (x : Room) : Type 0 where
  pub cells : HasCells x
  pub idle : IsIdle x
  -- it stands for what its history leaves
  pub stands : k.room ≤ k.settings.shards → StandsFor live_layout (sizes_of k.settings) k.room (words_of x) k.now
  -- a thread's room has the restart point and the end that it had as it was taken
  pub point : (t : TakenPosition) → k.position ≡ Some t → (point_in live_layout (words_of x) ≡ t.point) × (end_of x ≡ t.end)
  -- its write-backs are few, those that are owed included
  pub write_backs : (bank_of x).write_backs + lines_unasked x ≤ k.opened + free_bound (sizes_of k.settings) k.epoch k.closings false k.room x

-- the write-backs that the write of the epoch has made by its stage
abbrev pub epoch_write_backs : EpochStage → ℕ
epoch_write_backs Before = 0
epoch_write_backs Stored = 0
epoch_write_backs AskedFor = 1
epoch_write_backs InMemory = 1

-- What holds of the super room's line at a stage of the write.
pub record IsWritingEpoch (stage : EpochStage) (k : Knowledge) (bank : BankState) : Type 0 where
  pub stands_at : IsAtStage stage k.epoch bank
  -- the next epoch has 32 bits
  pub early : k.epoch + 1 < 2 ^ 32
  -- it is no thread's room
  pub no_position : k.position ≡ None
  -- its write-backs are few
  pub write_backs : bank.write_backs ≤ k.opened + k.closings + epoch_write_backs stage

-- the super room alone has an epoch
abbrev pub WritesEpoch : EpochStage → Knowledge → Room → Type 0
WritesEpoch stage k (Map x) = ⊥
WritesEpoch stage k (Queue x) = ⊥
WritesEpoch stage k (Thread x) = ⊥
WritesEpoch stage k (Super x) = IsWritingEpoch stage k x

-- What holds of a room in which a command is under way, with the object's reply.
pub record IsWorking (under : UnderWay) (k : Knowledge) (s : CommandRoomState) : Type 0 where
  pub running : s.cells.state ≡ Running k.epoch
  pub going : s.under_way ≡ Some under
  -- the command is one of the room, and the reply is the object's
  pub here : room_of (sizes_of k.settings) under.command ≡ k.room
  pub reply : reply_to (sizes_of k.settings) k.now under.command ≡ Some under.reply
  -- behind the stores that are left it stands for what the command leaves
  pub stands : StandsFor live_layout (sizes_of k.settings) k.room (command_words s) (contents_after (sizes_of k.settings) k.now under.command)
  -- of the command's stores, planned where it stood for what its history leaves, so many are made
  pub before : RoomWords
  pub stood : StandsFor live_layout (sizes_of k.settings) k.room before k.now
  pub count : ℕ
  pub made : HasMade before (command_stores live_layout (sizes_of k.settings) k.epoch k.room before under.command) count s
  pub few_left : length s.plan.stores ≤ 22
  -- its write-backs are few, and with those that are owed at most four more
  pub write_backs : s.cells.bank.write_backs ≤ k.opened + 4 * length k.history
  pub owed : s.cells.bank.write_backs + unasked s.cells.bank.lines + newly_pending (is_unasked_in s.cells.bank) s.plan.stores ≤ k.opened + 4 * length k.history + 4

-- rooms of commands alone work
abbrev pub WorksAt : UnderWay → Knowledge → Room → Type 0
WorksAt under k (Map x) = IsWorking under k x
WorksAt under k (Queue x) = IsWorking under k x
WorksAt under k (Thread x) = ⊥
WorksAt under k (Super x) = ⊥

-- What holds of a thread's room to which a restart point is written.
pub record IsWritingPoint (point : RestartPoint) (end : ThreadEnd) (k : Knowledge) (t : ThreadRoomState) : Type 0 where
  pub running : t.cells.state ≡ Running k.epoch
  -- behind the stores that are left it has this restart point
  pub point_behind : point_in live_layout (room_behind t) ≡ point
  pub end_is : t.end ≡ end
  pub few_left : length t.plan.stores ≤ 5
  -- its one line is to be written back, once it is stored to
  pub one_line : unasked t.cells.bank.lines + newly_pending (is_unasked_in t.cells.bank) t.plan.stores ≡ 1
  pub write_backs : t.cells.bank.write_backs ≤ k.opened + k.closings

-- a thread's room alone has a restart point
abbrev pub WritesPoint : RestartPoint → ThreadEnd → Knowledge → Room → Type 0
WritesPoint point end k (Map x) = ⊥
WritesPoint point end k (Queue x) = ⊥
WritesPoint point end k (Thread x) = IsWritingPoint point end k x
WritesPoint point end k (Super x) = ⊥

-- What holds of it by its use.
abbrev pub IsUsedAs : RoomUse → Knowledge → Room → Type 0
IsUsedAs resting k x = IsResting k x × IsFreeState k.epoch false (state_of x)
IsUsedAs flushing k x = IsResting k x × (state_of x ≡ Closing k.epoch) × (0 < lines_unasked x)
IsUsedAs flushed k x = IsResting k x × (state_of x ≡ Closing k.epoch) × (lines_unasked x ≡ 0)
IsUsedAs shut k x = IsResting k x × IsSavedIn (λ c. c ≤ k.epoch) (state_of x)
IsUsedAs (writing_epoch stage) k x = WritesEpoch stage k x
IsUsedAs (working under) k x = WorksAt under k x
IsUsedAs (writing_point point end) k x = WritesPoint point end k x

-- a room in hand
pub record IsInHand (role : RoomUse) (k : Knowledge) (x : Room) : Type 0 where
  pub kept : KeepsRoom k x
  pub used : IsUsedAs role k x

-- so it is by what some holder knows of it
abbrev pub IsHeldAs : RoomUse → Room → Type 0
IsHeldAs role x = (k : Knowledge) × IsInHand role k x
