-- Facts on a thread's room and its thread's view. The beginning is b, the history of all entries h, and the released checkpoints cs.
use Rattle.std.specs.Prelude.{◌≡◌, ℕ, Bool, true, false, List}
use Rattle.seq_object.specs.declared.history.Entry.{Entry}
use Rattle.life_model.specs.Life.{next_command, point_after}
use Rattle.room_model.specs.MapRoom.{live_layout}
use Rattle.room_model.specs.Rooms.{point_in}
use Rattle.incll_var.specs.Cells.{IsRunning}
use Rattle.rooms.specs.declared.room.Room.{Room}
use Rattle.yard_model.specs.declared.view.Phase.{Phase}
use Rattle.yard_model.specs.declared.view.Phase.TheVariants.{Running}
use Rattle.yard_model.specs.declared.view.Beginning.{Beginning}
use Rattle.yard_model.specs.declared.view.Checkpoint.{Checkpoint}
use Rattle.rooms.specs.Rooms.{state_of, loads, lines_unasked}
use Rattle.yard_model.specs.Beginnings.{opening_of, epoch_now, covered_part}
use Rattle.yard_model.specs.Knows.{stands, IsAtPlace}

-- A thread's room loads its restart point.
pub record KeepsPosition (b : Beginning) (h : List Entry) (cs : List Checkpoint) (lock i : ℕ) (phase : Phase) (ran : ℕ) (wrote : Bool) (x : Room) : Type 0 where
  -- where the thread stands, the room is at its place with all its entries
  pub standing : stands phase ≡ true → IsAtPlace (point_after (opening_of b) h i) (next_command (opening_of b) h i) x
  -- so it is where the thread runs and the room was written in this epoch
  pub written : lock ≡ 0 → phase ≡ Running → wrote ≡ true → IsAtPlace (point_after (opening_of b) h i) (next_command (opening_of b) h i) x
  -- where the thread runs and the room was not yet written, it loads the restart point that the last mark covers
  pub unwritten : lock ≡ 0 → phase ≡ Running → wrote ≡ false → point_in live_layout (loads x) ≡ point_after (opening_of b) (covered_part h cs) i
  -- a free room runs only where its thread ran in this epoch and wrote it
  pub runs : lock ≡ 0 → IsRunning (state_of x) → (ran ≡ epoch_now b cs) × (wrote ≡ true)

-- a free thread's room that was written in this epoch and is not done runs, and its one line is still to be written back
abbrev pub IsStored : ℕ → ℕ → Bool → ℕ → Bool → Room → Type 0
IsStored epoch lock done ran wrote x = lock ≡ 0 → done ≡ false → ran ≡ epoch → wrote ≡ true → IsRunning (state_of x) × (lines_unasked x ≡ 1)
