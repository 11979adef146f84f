-- The rooms of formatted memory, as a start has them.
use Rattle.std.specs.Prelude.{◌≡◌, ℕ, suc, ◌<◌, ◌≤◌, ◌==◌, List, [], ◌∷◌, length, slice_index, if◌then◌else◌}
use Rattle.seq_object.specs.declared.settings.Settings.{Settings}
use Rattle.seq_object.specs.Sizes.{sizes_of, thread_room, super_room}
use Rattle.seq_object.specs.Object.{no_contents}
use Rattle.room_model.specs.EpochLine.{epoch_line}
use Rattle.room_model.specs.MapRoom.{live_layout}
use Rattle.room_model.specs.Rooms.{StandsFor}
use Rattle.incll_var.specs.Cells.{IsCellBank, IsSavedIn}
use Rattle.restart_point.specs.declared.thread_end.ThreadEnd.{ThreadEnd}
use Rattle.restart_point.specs.declared.thread_end.ThreadEnd.TheVariants.{Ready, Ended}
use Rattle.rooms.specs.declared.room.Room.{Room}
use Rattle.rooms.specs.Rooms.{bank_of, cells_of, state_of, history_of, end_of, loads, IsIdle, IsRoomOf}

-- the end of a thread that has done nothing of a script of so many commands
abbrev pub first_end : ℕ → ThreadEnd
first_end commands = if commands == 0 then Ended else Ready

-- a room as a start has it, where the threads' scripts have these lengths
pub record IsFreshRoom (s : Settings) (lengths : List ℕ) (k : ℕ) (x : Room) : Type 0 where
  pub kind : IsRoomOf s k x
  pub idle : IsIdle x
  pub history : history_of x ≡ []
  pub write_backs : (bank_of x).write_backs ≡ 0
  -- cells are saved before the first epoch
  pub cells : k < super_room (sizes_of s) → IsCellBank (cells_of x)
  pub saved : k < super_room (sizes_of s) → IsSavedIn (λ c. c ≡ 0) (state_of x)
  -- rooms of commands stand by their loads for nothing
  pub stands : k ≤ s.shards → StandsFor live_layout (sizes_of s) k (loads x) no_contents
  -- a thread's room is at place 0, with the end that belongs to it
  pub place : (i : ℕ) → i < s.threads → k ≡ thread_room (sizes_of s) i → loads x 0 0 ≡ 0
  pub told : (i : ℕ) → i < s.threads → k ≡ thread_room (sizes_of s) i → end_of x ≡ first_end (slice_index lengths i)
  -- the super room has epoch 1, and nothing pending
  pub eight : k ≡ super_room (sizes_of s) → length (epoch_line (bank_of x)).base ≡ 8
  pub nothing_pending : k ≡ super_room (sizes_of s) → (epoch_line (bank_of x)).pending ≡ []
  pub epoch : k ≡ super_room (sizes_of s) → loads x 0 0 ≡ 1

-- each of these rooms, the first of them with this number, is
abbrev pub AreFreshFrom : Settings → List ℕ → ℕ → List Room → Type 0
AreFreshFrom s lengths k [] = Unit {0}
AreFreshFrom s lengths k (x ∷ xs) = IsFreshRoom s lengths k x × AreFreshFrom s lengths (suc k) xs
