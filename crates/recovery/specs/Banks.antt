-- The banks of the memory that a recovery is begun on.
use Rattle.std.specs.Prelude.{◌≡◌, ℕ, ◌+◌, ◌*◌, ◌<◌, ◌≤◌, ◌==◌, List, length, count_by, if◌then◌else◌}
use Rattle.seq_object.specs.declared.settings.Settings.{Settings}
use Rattle.seq_object.specs.Sizes.{AreValid, sizes_of, thread_room, super_room, line_count}
use Rattle.seq_object.specs.History.{point_at}
use Rattle.line_memory.specs.Line.{LineState, BankState, bank_at}
use Rattle.room_model.specs.Banks.{memory_words}
use Rattle.room_model.specs.Cell.{tag_of}
use Rattle.room_model.specs.EpochLine.{memory_epoch}
use Rattle.room_model.specs.MapRoom.{live_layout}
use Rattle.room_model.specs.Rooms.{StandsFor, point_in}
use Rattle.life_model.specs.Life.{Opening, sizes}
use Rattle.incll_var.specs.Cells.{AreSettled}
use Rattle.epoch_word.specs.SuperLine.{HoldsEpoch}
use Rattle.epoch_word.specs.declared.stage.EpochStage.TheVariants.{Before}
use Rattle.rooms.specs.declared.room.Room.{Room}
use Rattle.rooms.specs.Rooms.{bank_of}
use Rattle.recovery.specs.Recovering.{IsRoomIn, asks_in, events_in}

-- a bank of the image with which a life begins, as a room of it
pub record IsBankOf (o : Opening) (k : ℕ) (b : BankState) : Type 0 where
  pub lines : length b.lines ≡ line_count (sizes o) k
  pub settled : k < super_room (sizes o) → AreSettled o.epoch b.lines
  pub stands : k ≤ o.settings.shards → StandsFor live_layout (sizes o) k (memory_words o.epoch b) o.state.contents
  pub point : (i : ℕ) → i < o.settings.threads → k ≡ thread_room (sizes o) i → point_at o.state.points i ≡ point_in live_layout (memory_words o.epoch b)
  pub word : k ≡ super_room (sizes o) → HoldsEpoch b × (memory_epoch b ≡ o.epoch)

-- a life of these settings that begins at this epoch
pub record IsOpeningOf (o : Opening) (settings : Settings) (epoch : ℕ) : Type 0 where
  pub settings_are : o.settings ≡ settings
  pub epoch_is : o.epoch ≡ epoch
  pub valid : AreValid (sizes o)

-- the bank is one of such an image
abbrev pub MayBecome : Settings → ℕ → ℕ → BankState → Type 0
MayBecome settings epoch k bank = (o : Opening) × IsOpeningOf o settings epoch × IsBankOf o k bank

-- how many cells of a bank are tagged with an epoch
abbrev pub tagged_in : ℕ → BankState → ℕ
tagged_in epoch bank = count_by (λ (l : LineState). tag_of l.base == epoch) bank.lines

-- the write-backs that a bank has, and those that its recovery makes
abbrev pub most_in : Settings → ℕ → ℕ → BankState → ℕ
most_in settings epoch k bank = bank.write_backs + (if k == super_room (sizes_of settings) then 1 else tagged_in epoch bank)

abbrev pub most_at : Settings → ℕ → List BankState → ℕ → ℕ
most_at settings epoch banks k = most_in settings epoch k (bank_at banks k)

-- the events of the restore of a bank with so many cells that are tagged: three stores and a write-back for each, and a fence where
-- there is one
abbrev pub events_for : ℕ → ℕ
events_for tagged = 4 * tagged + (if tagged == 0 then 0 else 1)

-- the super room has none
abbrev pub bank_events : Settings → ℕ → ℕ → BankState → ℕ
bank_events settings epoch k bank = if k == super_room (sizes_of settings) then 0 else events_for (tagged_in epoch bank)

-- the room has these write-backs made and to come, and these events left; and of each such image it is one in a recovery
pub record Becomes (settings : Settings) (epoch k : ℕ) (bank : BankState) (x : Room) : Type 0 where
  pub few : (bank_of x).write_backs + asks_in Before x ≡ most_in settings epoch k bank
  pub events : events_in x ≡ bank_events settings epoch k bank
  pub about : (o : Opening) → IsOpeningOf o settings epoch → IsBankOf o k bank → IsRoomIn o Before k x

-- each of these banks is
abbrev pub AreBanksOf : Opening → Settings → ℕ → List BankState → Type 0
AreBanksOf o settings epoch banks = IsOpeningOf o settings epoch × ((k : ℕ) → k < length banks → IsBankOf o k (bank_at banks k))

-- a room has these events left
abbrev pub HasEvents : Settings → ℕ → List BankState → ℕ → Room → Type 0
HasEvents settings epoch banks k x = events_in x ≡ bank_events settings epoch k (bank_at banks k)
