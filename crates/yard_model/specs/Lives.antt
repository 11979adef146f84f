-- What a lawful world says of its life: that it is legal, that its memory is safe at a power cut, what its loads are, and how often it
-- closes and counts an event.
use Rattle.std.specs.Prelude.{◌≡◌, ℕ, ◌+◌, ◌<◌, ◌≤◌, List, length}
use Rattle.std.specs.List.{Contains}
use Rattle.seq_object.specs.declared.history.Entry.{Entry}
use Rattle.line_memory.specs.Line.{BankState, bank_at}
use Rattle.life_model.specs.declared.life.Outcome.{Outcome}
use Rattle.life_model.specs.Life.{IsLegalLife}
use Rattle.life_model.specs.Crash.{epoch_after, IsCrashSafe}
use Rattle.life_model.specs.Present.{IsPresent, AreAscending}
use Rattle.rooms.specs.declared.room.Room.{Room}
use Rattle.yard_model.specs.declared.view.Beginning.{Beginning}
use Rattle.yard_model.specs.declared.view.Checkpoint.{Checkpoint}
use Rattle.rooms.specs.Rooms.{bank_of}
use Rattle.yard_model.specs.Beginnings.{opening_of, sizes_at, marks_of, epoch_now}
use Rattle.yard_model.specs.World.{YardState, lock_of, dead, Home, all_ticks}
use Rattle.yard_model.specs.Lawful.{Lawful}
use Rattle.yard_model.specs.Outcomes.{ShowsEnd}
use Rattle.life_model.specs.Work.{ClosesOncePerEntry}
use Rattle.seq_object.specs.Sizes.{room_count}

-- the rooms are all at home, and these are their banks
pub record IsMemoryOf (b : Beginning) (w : YardState) (memory : List BankState) : Type 0 where
  pub number : length memory ≡ room_count (sizes_at b)
  pub rooms : (r : ℕ) → r < room_count (sizes_at b) → (x : Room) × Home w r x × (bank_at memory r ≡ bank_of x)

-- these are the rooms that were given back in mid-work, each above the one before
pub record NamesDead (b : Beginning) (w : YardState) (held : List ℕ) : Type 0 where
  pub ascending : AreAscending held
  pub are_dead : (r : ℕ) → Contains held r → (r < room_count (sizes_at b)) × (lock_of w r ≡ dead)
  pub all : (r : ℕ) → r < room_count (sizes_at b) → lock_of w r ≡ dead → Contains held r

-- the epoch that runs, as the yard counts it by its checkpoints, is the one that the life has behind its marks
abbrev pub EpochNowLaw : Type 0
EpochNowLaw = (b : Beginning) (cs : List Checkpoint) → epoch_now b cs ≡ epoch_after (opening_of b) (marks_of b cs)

-- the life is legal
abbrev pub LifeIsLegalLaw : Type 0
LifeIsLegalLaw = (b : Beginning) (w : YardState) (h : List Entry) (cs : List Checkpoint) → Lawful b w h cs → IsLegalLife (opening_of b) h (marks_of b cs)

-- whatever a power cut keeps of its memory, the image recovers to what the epoch write in it saved
abbrev pub LifeIsSafeLaw : Type 0
LifeIsSafeLaw = (b : Beginning) (w : YardState) (h : List Entry) (cs : List Checkpoint) (memory : List BankState) → Lawful b w h cs → IsMemoryOf b w memory
    → IsCrashSafe (opening_of b) h (marks_of b cs) memory

-- its loads are what the history leaves, but for rooms that were given back in mid-work; at an outcome at which all is saved there are none
abbrev pub LifeIsPresentLaw : Type 0
LifeIsPresentLaw = (b : Beginning) (w : YardState) (h : List Entry) (cs : List Checkpoint) (memory : List BankState) (held : List ℕ) (outcome : Outcome)
    → Lawful b w h cs → IsMemoryOf b w memory → NamesDead b w held → ShowsEnd outcome b w cs → IsPresent (opening_of b) h (marks_of b cs) held outcome memory

-- without a take in its scripts its closings are at most as many as its entries
abbrev pub LifeClosesOncePerEntryLaw : Type 0
LifeClosesOncePerEntryLaw = (b : Beginning) (w : YardState) (h : List Entry) (cs : List Checkpoint) → Lawful b w h cs
    → ClosesOncePerEntry (opening_of b) h (marks_of b cs)

-- its threads told the tick word of at most as many events as the limit is, and one for each thread
abbrev pub LifeTicksLittleLaw : Type 0
LifeTicksLittleLaw = (b : Beginning) (w : YardState) (h : List Entry) (cs : List Checkpoint) → Lawful b w h cs → all_ticks w.views ≤ b.limit + b.settings.threads
