-- What a recovery keeps.
use Rattle.std.specs.Prelude.{◌≡◌, ◌≢◌, ℕ, ◌+◌, ◌<◌, ◌≤◌, List, [], length, slice_index}
use Rattle.seq_object.specs.declared.settings.Settings.{Settings}
use Rattle.seq_object.specs.Sizes.{sizes_of, thread_room, room_count}
use Rattle.seq_object.specs.History.{total, point_at}
use Rattle.line_memory.specs.Line.{BankState, bank_at}
use Rattle.room_model.specs.Image.{image_of, nothing_kept, epoch_at}
use Rattle.room_model.specs.MapRoom.{live_layout}
use Rattle.room_model.specs.Rooms.{point_in}
use Rattle.life_model.specs.Life.{Opening, script_of}
use Rattle.life_model.specs.Crash.{IsCrashSafe}
use Rattle.life_model.specs.Work.{torn_cells}
use Rattle.epoch_word.specs.declared.stage.EpochStage.TheVariants.{InMemory}
use Rattle.rooms.specs.Rooms.{loads}
use Rattle.yard_model.specs.declared.view.Beginning.{Beginning}
use Rattle.yard_model.specs.Beginnings.{opening_of, sizes_at, IsBeginning}
use Rattle.yard_model.specs.Opens.{IsOpeningRoom}
use Rattle.room_yard.specs.World.{WorldState, memory_of, Opens}
use Rattle.recovery.specs.Banks.{most_at}
use Rattle.recovery.specs.Ends.{AreTold, opening_word}
use Rattle.recovery.specs.Restored.{room_at}
use Rattle.recovery.specs.Recovering.{RecoveryState, IsRecovery, AllWriteLittleBack, marks_at, write_backs_of, stepped, events_left}

-- behind each event of a recovery the memory is safe at a power cut: without a mark, and at the end with the mark of the recovery
abbrev pub RecoverySafeLaw : Type 0
RecoverySafeLaw = (o : Opening) (r : RecoveryState) → IsRecovery o r → length o.scripts ≡ o.settings.threads → IsCrashSafe o [] (marks_at r.stage) (memory_of r.rooms)

-- at the end each room is one that a resumed life opens with, and a thread's room loads its thread's restart point
abbrev pub RoomsOpenLaw : Type 0
RoomsOpenLaw = (b : Beginning) (r : RecoveryState) → IsRecovery (opening_of b) r → r.stage ≡ InMemory → b.write_backs ≡ write_backs_of r.rooms
    → ((k : ℕ) → k < room_count (sizes_at b) → IsOpeningRoom b k (room_at r.rooms k))
    × ((i : ℕ) → i < b.settings.threads → point_in live_layout (loads (room_at r.rooms (thread_room (sizes_at b) i))) ≡ point_at b.points i)

-- the lengths of the scripts of a life
abbrev pub AreLengthsOf : Beginning → List ℕ → Type 0
AreLengthsOf b lengths = (i : ℕ) → i < b.settings.threads → slice_index lengths i ≡ length (script_of b.scripts i)

-- a world has the rooms of a recovery with their ends told, by the lengths of the scripts, and is as no thread has moved in it
pub record IsWorldOf (r : RecoveryState) (lengths : List ℕ) (w : WorldState) : Type 0 where
  pub told : AreTold r.settings.shards lengths r.settings.threads r.rooms w.rooms
  pub arrival : w.arrival ≡ opening_word r lengths
  pub clock : w.clock ≡ 0
  pub held : w.held ≡ []

-- at the end a resumed life opens with this world
abbrev pub RecoveryOpensLaw : Type 0
RecoveryOpensLaw = (b : Beginning) (r : RecoveryState) (lengths : List ℕ) (w : WorldState) → IsRecovery (opening_of b) r → r.stage ≡ InMemory
    → b.write_backs ≡ write_backs_of r.rooms → AreLengthsOf b lengths → IsBeginning b → IsWorldOf r lengths w → Opens b w

-- each event keeps a bound on the write-backs that were made and that are to come
abbrev pub WriteBacksKeptLaw : Type 0
WriteBacksKeptLaw = (most : ℕ → ℕ) (r : RecoveryState) → AllWriteLittleBack most r → AllWriteLittleBack most (stepped r)

-- and the write-backs of all rooms together are within it
abbrev pub WriteBacksTotalLaw : Type 0
WriteBacksTotalLaw = (most : ℕ → ℕ) (r : RecoveryState) → AllWriteLittleBack most r → total (λ k. (bank_at (memory_of r.rooms) k).write_backs) (length r.rooms) ≤ total most (length r.rooms)

-- the bound with which a recovery begins: the write-backs of the memory, one for each cell that is restored, and one for the epoch
abbrev pub WriteBacksCountLaw : Type 0
WriteBacksCountLaw = (settings : Settings) (memory : List BankState)
    → total (most_at settings (epoch_at (sizes_of settings) (image_of memory nothing_kept)) memory) (room_count (sizes_of settings))
    ≡ total (λ k. (bank_at memory k).write_backs) (room_count (sizes_of settings)) + (1 + torn_cells (sizes_of settings) (image_of memory nothing_kept))

-- each event is one fewer that is left
abbrev pub RecoveryGoesOnLaw : Type 0
RecoveryGoesOnLaw = (r : RecoveryState) → r.stage ≢ InMemory → events_left r ≡ events_left (stepped r) + 1
