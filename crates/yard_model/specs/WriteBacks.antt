-- Write-backs of a life: how much each room's count rose, and how little that is, at each turn and at the end.
use Rattle.std.specs.Prelude.{◌≡◌, ℕ, ◌+◌, ◌*◌, ◌-◌, ◌^◌, ◌<◌, ◌≤◌, nat_le, min, List, length, Some, if◌then◌else◌}
use Rattle.seq_object.specs.declared.history.Entry.{Entry}
use Rattle.seq_object.specs.Sizes.{room_count}
use Rattle.seq_object.specs.History.{of_room, total}
use Rattle.line_memory.specs.Line.{BankState, bank_at, all_write_backs}
use Rattle.room_model.specs.Image.{ImageRooms}
use Rattle.life_model.specs.Work.{WritesFewBack, recovery_write_backs}
use Rattle.rooms.specs.declared.room.Room.{Room}
use Rattle.yard_model.specs.declared.view.Beginning.{Beginning}
use Rattle.yard_model.specs.declared.view.View.{View}
use Rattle.yard_model.specs.declared.view.Grip.{Grip}
use Rattle.yard_model.specs.declared.view.Checkpoint.{Checkpoint}
use Rattle.rooms.specs.Rooms.{bank_of}
use Rattle.yard_model.specs.Beginnings.{opening_of, sizes_at, marks_of, write_backs_at}
use Rattle.yard_model.specs.World.{YardState, ViewIs, Home}
use Rattle.yard_model.specs.Lawful.{Lawful}
use Rattle.yard_model.specs.Lives.{IsMemoryOf}
use Rattle.seq_object.specs.declared.sizes.Sizes.{Sizes}

-- how much these counts of all rooms rose since the beginning
abbrev pub rise_of : Beginning → (ℕ → ℕ) → ℕ
rise_of b counts = total (λ r. counts r - write_backs_at b r) (room_count (sizes_at b))

-- each room's count in a memory
abbrev pub counts_in : List BankState → ℕ → ℕ
counts_in memory r = (bank_at memory r).write_backs

-- the most write-backs since the beginning that a room may have at any turn: four for each entry of a room of commands, else one for each
-- checkpoint and one more
abbrev pub most_write_backs : Sizes → List Entry → ℕ → ℕ → ℕ
most_write_backs z h closings r = if nat_le r z.shards then 4 * length (of_room z r h) else closings + 1

-- these are the rooms' counts: of a room at home its own, and of one that a thread holds no more than it may have
pub record AreCounts (b : Beginning) (w : YardState) (h : List Entry) (cs : List Checkpoint) (counts : ℕ → ℕ) : Type 0 where
  pub home : (r : ℕ) (x : Room) → Home w r x → counts r ≡ (bank_of x).write_backs
  pub hands : (i : ℕ) (v : View) → ViewIs w i v → (g : Grip) → v.grip ≡ Some g
      → counts g.room ≤ write_backs_at b g.room + most_write_backs (sizes_at b) h (length cs) g.room

-- write-backs are few at every turn
abbrev pub FewAreWrittenLaw : Type 0
FewAreWrittenLaw = (b : Beginning) (w : YardState) (h : List Entry) (cs : List Checkpoint) (counts : ℕ → ℕ) → Lawful b w h cs → AreCounts b w h cs counts
    → rise_of b counts ≤ 4 * length h + (b.settings.threads + 1) * (length cs + 1)

-- where all rooms are at home no count is below the beginning's, and their rise is small
abbrev pub LifeFlushesLittleLaw : Type 0
LifeFlushesLittleLaw = (b : Beginning) (w : YardState) (h : List Entry) (cs : List Checkpoint) (memory : List BankState) (image : ImageRooms)
    → Lawful b w h cs → IsMemoryOf b w memory
    → ((r : ℕ) → r < room_count (sizes_at b) → write_backs_at b r ≤ counts_in memory r)
    × WritesFewBack (opening_of b) image h (marks_of b cs) (recovery_write_backs (opening_of b) image + rise_of b (counts_in memory))

-- the count of a memory is the sum of its rooms' counts, which stands still at its type's end
abbrev pub MemoryCountsLaw : Type 0
MemoryCountsLaw = (memory : List BankState) → all_write_backs memory ≡ min (total (counts_in memory) (length memory)) (2 ^ 64 - 1)
