-- A recovery as plain data, and what holds of it between two events.
use Rattle.std.specs.Prelude.{◌≡◌, ℕ, zero, suc, ◌+◌, ◌-◌, ◌*◌, ◌^◌, ◌<◌, ◌≤◌, List, [], ◌∷◌, length, map, slice_set, if◌then◌else◌}
use Rattle.seq_object.specs.declared.settings.Settings.{Settings}
use Rattle.seq_object.specs.declared.sizes.Sizes.{Sizes}
use Rattle.seq_object.specs.Sizes.{AreValid, thread_room, super_room, room_count}
use Rattle.seq_object.specs.History.{point_at}
use Rattle.line_memory.specs.Line.{bank_stored, bank_written_back, bank_fenced}
use Rattle.room_model.specs.Banks.{memory_words}
use Rattle.room_model.specs.Chains.{HasSameRecords}
use Rattle.room_model.specs.EpochLine.{epoch_line, loaded_epoch}
use Rattle.room_model.specs.Image.{ImageRooms}
use Rattle.room_model.specs.MapRoom.{live_layout}
use Rattle.room_model.specs.Rooms.{StandsFor, point_in}
use Rattle.life_model.specs.declared.life.Life.TheVariants.{Resume}
use Rattle.life_model.specs.Life.{Opening, sizes}
use Rattle.life_model.specs.Work.{torn_cells, torn_rooms}
use Rattle.incll_var.specs.declared.state.CellState.{CellState}
use Rattle.incll_var.specs.declared.state.CellState.TheVariants.{Torn, Running, Closing, Saved}
use Rattle.incll_var.specs.declared.restore.RestoreEvent.{RestoreEvent}
use Rattle.incll_var.specs.declared.restore.RestoreEvent.TheVariants.{Restores, Asks, Fences}
use Rattle.incll_var.specs.Cells.{IsSaved}
use Rattle.epoch_word.specs.declared.stage.EpochStage.{EpochStage}
use Rattle.epoch_word.specs.declared.stage.EpochStage.TheVariants.{Before, Stored, AskedFor, InMemory}
use Rattle.epoch_word.specs.Stages.{IsAtStage}
use Rattle.rooms.specs.declared.room.Room.{Room}
use Rattle.rooms.specs.declared.room.Room.TheVariants.{Map, Queue, Thread, Super}
use Rattle.rooms.specs.Rooms.{bank_of, cells_of, state_of, history_of, IsIdle, IsWhole, IsRoomOf, loads}
use Rattle.recovery.specs.declared.recovery.RecoverStep.{RecoverStep}
use Rattle.recovery.specs.declared.recovery.RecoverStep.TheVariants.{Did, Finished}
use Rattle.recovery.specs.Restored.{room_at, restored_on, any_left}

-- the settings, the rooms in the order of their numbers, and how far the write of the next epoch has come: before it the rooms are
-- restored, and once it is in memory the recovery is finished
pub record RecoveryState : Type 0 where
  pub settings : Settings
  pub rooms : List Room
  pub stage : EpochStage

-- the marks of the life: that of the recovery, once the next epoch is in memory
abbrev pub marks_at : EpochStage → List ℕ
marks_at Before = []
marks_at Stored = []
marks_at AskedFor = []
marks_at InMemory = 0 ∷ []

-- The events of the epoch write in a room; rooms of cells stay as they are.

-- the store of the next epoch
abbrev pub next_stored : Room → Room
next_stored (Map x) = Map x
next_stored (Queue x) = Queue x
next_stored (Thread x) = Thread x
next_stored (Super x) = Super (bank_stored x 0 0 (loaded_epoch x + 1))

-- its write-back
abbrev pub written_back : Room → Room
written_back (Map x) = Map x
written_back (Queue x) = Queue x
written_back (Thread x) = Thread x
written_back (Super x) = Super (bank_written_back x 0)

-- the fence
abbrev pub in_memory : Room → Room
in_memory (Map x) = Map x
in_memory (Queue x) = Queue x
in_memory (Thread x) = Thread x
in_memory (Super x) = Super (bank_fenced x)

-- the next epoch may be stored
abbrev pub MayStoreIn : Room → Type 0
MayStoreIn (Map x) = Unit {0}
MayStoreIn (Queue x) = Unit {0}
MayStoreIn (Thread x) = Unit {0}
MayStoreIn (Super x) = ((epoch_line x).pending ≡ []) × (loaded_epoch x + 1 < 2 ^ 32)

pub record MayStore (x : Room) : Type 0 where
  pub whole : IsWhole x
  pub may : MayStoreIn x

-- the last of these rooms
abbrev pub last_of : List Room → Room
last_of rooms = room_at rooms (length rooms - 1)

-- rooms with the last of them changed
abbrev pub with_last : (Room → Room) → List Room → List Room
with_last f rooms = slice_set rooms (length rooms - 1) (f (last_of rooms))

-- the recovery behind the next event
abbrev pub stepped_in : EpochStage → RecoveryState → RecoveryState
stepped_in Before r = if any_left r.rooms then record r { rooms = restored_on r.rooms } else record r { rooms = with_last next_stored (restored_on r.rooms); stage = Stored }
stepped_in Stored r = record r { rooms = with_last written_back r.rooms; stage = AskedFor }
stepped_in AskedFor r = record r { rooms = with_last in_memory r.rooms; stage = InMemory }
stepped_in InMemory r = r

abbrev pub stepped : RecoveryState → RecoveryState
stepped r = stepped_in r.stage r

-- the recovery behind its next so many events
abbrev pub behind_events : ℕ → RecoveryState → RecoveryState
behind_events zero r = r
behind_events (suc n) r = stepped (behind_events n r)

-- what a step says that leads to this stage
abbrev pub step_to : EpochStage → RecoverStep
step_to Before = Did
step_to Stored = Did
step_to AskedFor = Did
step_to InMemory = Finished

-- the memory epoch by load: the image's, and the next once its store was made
abbrev pub epoch_by_load : RecoveryState → ℕ
epoch_by_load r = loaded_epoch (bank_of (last_of r.rooms))

-- the cells are torn or saved, at this epoch
abbrev pub IsInRestore : ℕ → CellState → Type 0
IsInRestore epoch (Torn e) = e ≡ epoch
IsInRestore epoch (Running e) = ⊥
IsInRestore epoch (Closing e) = ⊥
IsInRestore epoch (Saved e) = e ≡ epoch

-- the restores are done
abbrev pub AreDone : EpochStage → Type 0
AreDone Before = ⊥
AreDone Stored = Unit {0}
AreDone AskedFor = Unit {0}
AreDone InMemory = Unit {0}

-- a room of a recovery
pub record IsRoomIn (o : Opening) (stage : EpochStage) (k : ℕ) (x : Room) : Type 0 where
  pub kind : IsRoomOf o.settings k x
  pub whole : IsWhole x
  pub idle : IsIdle x
  pub history : history_of x ≡ []
  -- its cells are torn or saved at the image's epoch, and saved once the restores are done
  pub state : k < super_room (sizes o) → IsInRestore o.epoch (state_of x)
  pub done : k < super_room (sizes o) → AreDone stage → IsSaved (state_of x)
  -- memory holds of it at that epoch its part of what the image recovers to
  pub stands : k ≤ o.settings.shards → StandsFor live_layout (sizes o) k (memory_words o.epoch (bank_of x)) o.state.contents
  pub point : (i : ℕ) → i < o.settings.threads → k ≡ thread_room (sizes o) i → point_at o.state.points i ≡ point_in live_layout (memory_words o.epoch (bank_of x))
  -- and where it is saved these are its loads
  pub loaded : k < super_room (sizes o) → IsSaved (state_of x) → HasSameRecords (loads x) (memory_words o.epoch (bank_of x))
  -- the super room
  pub epoch : k ≡ super_room (sizes o) → IsAtStage stage o.epoch (bank_of x)

-- each of these rooms, the first of them with this number
abbrev pub EachFrom : (ℕ → Room → Type 0) → ℕ → List Room → Type 0
EachFrom P k [] = Unit {0}
EachFrom P k (x ∷ xs) = P k x × EachFrom P (suc k) xs

-- a recovery of the image with which a life begins
pub record IsRecovery (o : Opening) (r : RecoveryState) : Type 0 where
  pub settings : r.settings ≡ o.settings
  pub valid : AreValid (sizes o)
  pub life : o.life ≡ Resume
  pub some : 1 ≤ o.epoch
  pub fits : o.epoch + 1 < 2 ^ 32
  pub points : length o.state.points ≡ o.settings.threads
  pub number : length r.rooms ≡ room_count (sizes o)
  pub rooms : EachFrom (IsRoomIn o r.stage) 0 r.rooms

-- the write-backs of each room
abbrev pub write_backs_of : List Room → List ℕ
write_backs_of rooms = map (λ x. (bank_of x).write_backs) rooms

-- Few write-backs.

-- how many of these events are write-backs
abbrev pub asks_left : List RestoreEvent → ℕ
asks_left [] = 0
asks_left (Restores i w ∷ events) = asks_left events
asks_left (Asks i ∷ events) = 1 + asks_left events
asks_left (Fences ∷ events) = asks_left events

-- the write-back of the epoch that is to come
abbrev pub epoch_left : EpochStage → ℕ
epoch_left Before = 1
epoch_left Stored = 1
epoch_left AskedFor = 0
epoch_left InMemory = 0

-- the write-backs of a room that are to come
abbrev pub asks_in : EpochStage → Room → ℕ
asks_in stage (Map x) = asks_left x.cells.todo
asks_in stage (Queue x) = asks_left x.cells.todo
asks_in stage (Thread x) = asks_left x.cells.todo
asks_in stage (Super x) = epoch_left stage

-- the write-backs that were made and that are to come are at most so many
abbrev pub WritesLittleBack : (ℕ → ℕ) → EpochStage → ℕ → Room → Type 0
WritesLittleBack most stage k x = (bank_of x).write_backs + asks_in stage x ≤ most k

abbrev pub AllWriteLittleBack : (ℕ → ℕ) → RecoveryState → Type 0
AllWriteLittleBack most r = EachFrom (WritesLittleBack most r.stage) 0 r.rooms

-- How many events are left.

-- of a room's restore; the super room has none
abbrev pub events_in : Room → ℕ
events_in x = length (cells_of x).todo

-- of the restores of rooms
abbrev pub restores_left : List Room → ℕ
restores_left [] = 0
restores_left (x ∷ xs) = events_in x + restores_left xs

-- of a recovery at this stage: behind the restores come three events of the epoch write
abbrev pub left_at : EpochStage → List Room → ℕ
left_at Before rooms = restores_left rooms + 3
left_at Stored rooms = 2
left_at AskedFor rooms = 1
left_at InMemory rooms = 0

abbrev pub events_left : RecoveryState → ℕ
events_left r = left_at r.stage r.rooms

-- the events of the recovery of an image: three stores and a write-back for each cell that is tagged with its epoch, a fence for each
-- room that has one, and three of the epoch write
abbrev pub recovery_events : Sizes → ImageRooms → ℕ
recovery_events z image = 4 * torn_cells z image + torn_rooms z image + 3
