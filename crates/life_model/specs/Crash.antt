-- What a memory may leave at a power cut: whichever prefix of its pending stores each line keeps, a lawful image that
-- recovers to the prefix of the history that the last epoch write in memory covered.
use Rattle.std.specs.Prelude.{◌≡◌, ℕ, ◌+◌, ◌==◌, ◌⊎◌, if◌then◌else◌, List, [], ◌∷◌, ◌++◌, length, take}
use Rattle.seq_object.specs.declared.history.Entry.{Entry}
use Rattle.seq_object.specs.Sizes.{super_room}
use Rattle.seq_object.specs.History.{after}
use Rattle.line_memory.specs.Line.{BankState, load_of, bank_at}
use Rattle.room_model.specs.MapRoom.{live_layout}
use Rattle.room_model.specs.Image.{KeptCounts, ImageRooms, image_of, epoch_at, Recovers}
use Rattle.life_model.specs.Life.{Opening, sizes, covered, IsLegalLife}
use Rattle.room_model.specs.EpochLine.{surviving_epoch}
use Rattle.seq_object.specs.declared.sizes.Sizes.{Sizes}

-- the epoch of the last acknowledged epoch write
abbrev pub epoch_after : Opening → List ℕ → ℕ
epoch_after o marks = o.epoch + length marks

-- the image is of the last acknowledged epoch write: it recovers to what that covered
pub record LeavesCovered (o : Opening) (h : List Entry) (marks : List ℕ) (image : ImageRooms) : Type 0 where
  pub epoch : epoch_at (sizes o) image ≡ epoch_after o marks
  pub recovers : Recovers live_layout (sizes o) image (after (sizes o) o.state (take (covered marks) h))

-- the image has an epoch write that was made and not yet acknowledged: it recovers to the whole history, which may be marked
pub record LeavesAll (o : Opening) (h : List Entry) (marks : List ℕ) (memory : List BankState) (image : ImageRooms) : Type 0 where
  pub epoch : epoch_at (sizes o) image ≡ epoch_after o marks + 1
  pub recovers : Recovers live_layout (sizes o) image (after (sizes o) o.state h)
  pub stored : load_of memory (super_room (sizes o)) 0 0 ≡ epoch_after o marks + 1
  pub marked : IsLegalLife o h (marks ++ length h ∷ [])

-- for every choice, one of the two
abbrev pub IsCrashSafe : Opening → List Entry → List ℕ → List BankState → Type 0
IsCrashSafe o h marks memory = (choice : KeptCounts)
    → LeavesCovered o h marks (image_of memory choice) ⊎ LeavesAll o h marks memory (image_of memory choice)

-- the prefix of the history that an image of this epoch keeps
abbrev pub recovered_prefix : Opening → List Entry → List ℕ → ℕ → List Entry
recovered_prefix o h marks epoch = if epoch == epoch_after o marks then take (covered marks) h else h

-- whatever the super room's line keeps, its epoch is this one
abbrev pub HasEpoch : Sizes → ℕ → List BankState → Type 0
HasEpoch z epoch memory = (kept : ℕ) → surviving_epoch (bank_at memory (super_room z)) kept ≡ epoch

-- whatever the super room's line keeps, its epoch is this one or the next, and the next is stored
pub record HasNextEpoch (z : Sizes) (epoch : ℕ) (memory : List BankState) : Type 0 where
  pub either : (kept : ℕ)
      → (surviving_epoch (bank_at memory (super_room z)) kept ≡ epoch) ⊎ (surviving_epoch (bank_at memory (super_room z)) kept ≡ epoch + 1)
  pub stored : load_of memory (super_room z) 0 0 ≡ epoch + 1
