-- What is known of a room at home: one that is free, and one that was given back in mid-work. The lawful world says it of each room,
-- lock tells it of the room that it gives, and who gives a room back owes it.
use Rattle.std.specs.Prelude.{◌≡◌, ℕ, ◌+◌, ◌*◌, ◌<◌, ◌≤◌, ◌⊎◌, nat_lt, nat_le, Bool, true, List, [], length, if◌then◌else◌}
use Rattle.seq_object.specs.declared.history.Entry.{Entry}
use Rattle.seq_object.specs.Sizes.{super_room}
use Rattle.seq_object.specs.Object.{Contents}
use Rattle.life_model.specs.Life.{contents_now}
use Rattle.line_memory.specs.Line.{BankState}
use Rattle.room_model.specs.MapRoom.{live_layout}
use Rattle.room_model.specs.Rooms.{StandsFor}
use Rattle.room_model.specs.Banks.{memory_words}
use Rattle.room_model.specs.EpochLine.{epoch_line, loaded_epoch, surviving_epoch}
use Rattle.incll_var.specs.declared.state.CellState.{CellState}
use Rattle.incll_var.specs.declared.state.CellState.TheVariants.{Torn, Running as RunningCells, Closing as ClosingCells, Saved}
use Rattle.incll_var.specs.Cells.{IsCellBank, IsSavedIn}
use Rattle.rooms.specs.declared.room.Room.{Room}
use Rattle.yard_model.specs.declared.view.Beginning.{Beginning}
use Rattle.yard_model.specs.declared.view.Checkpoint.{Checkpoint}
use Rattle.rooms.specs.Rooms.{bank_of, cells_of, state_of, history_of, IsIdle, loads, lines_unasked}
use Rattle.yard_model.specs.Beginnings.{opening_of, sizes_at, epoch_now, covered_contents, write_backs_at}
use Rattle.seq_object.specs.declared.sizes.Sizes.{Sizes}

-- STATES of a room's cells.

-- cells whose room is free: saved in an epoch before, or in this one where the room is done; or running in this one
abbrev pub IsFreeState : ℕ → Bool → CellState → Type 0
IsFreeState epoch done (Torn c) = ⊥
IsFreeState epoch done (RunningCells c) = c ≡ epoch
IsFreeState epoch done (ClosingCells c) = ⊥
IsFreeState epoch done (Saved c) = (c < epoch) ⊎ ((c ≡ epoch) × (done ≡ true))

-- cells whose room was given back in mid-work: saved in an epoch before, or in this one where a thread closes; or running or closing in
-- this one
abbrev pub IsDeadState : ℕ → Bool → CellState → Type 0
IsDeadState epoch closing (Torn c) = ⊥
IsDeadState epoch closing (RunningCells c) = c ≡ epoch
IsDeadState epoch closing (ClosingCells c) = c ≡ epoch
IsDeadState epoch closing (Saved c) = (c < epoch) ⊎ ((c ≡ epoch) × (closing ≡ true))

-- WRITE-BACKS since the opening, behind so many closings.

-- how many a thread's room may have that is free: one for each checkpoint, and one more in this epoch once it was written
abbrev pub position_bound : ℕ → ℕ → CellState → ℕ
position_bound epoch closings (Torn c) = closings + 1
position_bound epoch closings (RunningCells c) = closings + 1
position_bound epoch closings (ClosingCells c) = closings + 1
position_bound epoch closings (Saved c) = if nat_lt c epoch then closings else closings + 1

-- any room that is free: four for each entry of a room of commands; of the super room one for each checkpoint, one that is done included
abbrev pub free_bound : Sizes → ℕ → ℕ → Bool → ℕ → Room → ℕ
free_bound z epoch closings done r x =
    if nat_le r z.shards then 4 * length (history_of x)
    else if nat_lt r (super_room z) then position_bound epoch closings (state_of x) else closings + (if done then 1 else 0)

-- a room that was given back in mid-work
abbrev pub dead_bound : Sizes → ℕ → ℕ → Room → ℕ
dead_bound z closings r x = if nat_le r z.shards then 4 * length (history_of x) else closings + 1

-- ROOMS. They are said in an epoch, for so many write-backs at the opening, behind so many closings, of a room that the closing has done
-- or not, and for what the object holds now and what the last mark covers.

-- a room at home: what memory has of it
pub record IsSafeRoom (z : Sizes) (epoch opened : ℕ) (done : Bool) (covered : Contents) (r : ℕ) (x : Room) : Type 0 where
  -- every survivor of a cell has a tag of at most the epoch, and the triple there that memory has; saved cells have nothing pending
  pub cells : r < super_room z → IsCellBank (cells_of x)
  -- a room that is done is saved
  pub saved : done ≡ true → r < super_room z → IsSavedIn (λ c. c ≤ epoch) (state_of x)
  -- what memory has at the epoch stands for what the last mark covers
  pub in_memory : r ≤ z.shards → StandsFor live_layout z r (memory_words epoch (bank_of x)) covered
  -- write-backs are no fewer than at the opening
  pub no_fewer : opened ≤ (bank_of x).write_backs
  -- the super room's line has eight words
  pub eight : r ≡ super_room z → length (epoch_line (bank_of x)).base ≡ 8

-- a room that is free
pub record IsFreeRoom (z : Sizes) (epoch opened closings : ℕ) (done : Bool) (now covered : Contents) (r : ℕ) (x : Room) : Type 0 where
  pub safe : IsSafeRoom z epoch opened done covered r x
  -- no command and no write is under way
  pub idle : IsIdle x
  -- the state of its cells
  pub state : r < super_room z → IsFreeState epoch done (state_of x)
  -- its loads stand for what the object holds now
  pub stands : r ≤ z.shards → StandsFor live_layout z r (loads x) now
  -- write-backs since the opening are few, those that are still owed included
  pub write_backs : (bank_of x).write_backs + lines_unasked x ≤ opened + free_bound z epoch closings done r x
  -- the super room has nothing pending
  pub nothing_pending : r ≡ super_room z → (epoch_line (bank_of x)).pending ≡ []
  -- and its epoch by load is the epoch, or the next one where it is done
  pub epoch_word : r ≡ super_room z → loaded_epoch (bank_of x) ≡ epoch + (if done then 1 else 0)

-- an epoch that is left of the super room's bank is the epoch, or the next one where that is the load
abbrev pub IsEpochOrNext : ℕ → BankState → ℕ → Type 0
IsEpochOrNext epoch bank left = (left ≡ epoch) ⊎ ((left ≡ epoch + 1) × (loaded_epoch bank ≡ epoch + 1))

-- a room that was given back in mid-work, while a thread closes or not
pub record IsDeadRoom (z : Sizes) (epoch opened closings : ℕ) (done closing : Bool) (covered : Contents) (r : ℕ) (x : Room) : Type 0 where
  pub safe : IsSafeRoom z epoch opened done covered r x
  -- the state of its cells
  pub state : r < super_room z → IsDeadState epoch closing (state_of x)
  -- write-backs since the opening are few
  pub write_backs : (bank_of x).write_backs ≤ opened + dead_bound z closings r x
  -- whatever a cut keeps of the super room's line, its epoch is the epoch or the next one
  pub epoch_word : r ≡ super_room z → (k : ℕ) → IsEpochOrNext epoch (bank_of x) (surviving_epoch (bank_of x) k)

-- IN A LIFE, behind the history h and the checkpoints cs, where so many rooms are done.
abbrev pub IsFreeHome : Beginning → List Entry → List Checkpoint → ℕ → ℕ → Room → Type 0
IsFreeHome b h cs done r x =
    IsFreeRoom (sizes_at b) (epoch_now b cs) (write_backs_at b r) (length cs) (nat_lt r done) (contents_now (opening_of b) h) (covered_contents b h cs) r x

abbrev pub IsDeadHome : Beginning → List Entry → List Checkpoint → ℕ → Bool → ℕ → Room → Type 0
IsDeadHome b h cs done closing r x =
    IsDeadRoom (sizes_at b) (epoch_now b cs) (write_backs_at b r) (length cs) (nat_lt r done) closing (covered_contents b h cs) r x
