-- Facts on what one view holds, gave back, and has drawn. A fact takes those fields of the view that it speaks of, so that a step that
-- leaves them leaves the fact. The beginning is b, the history of all entries h, and the released checkpoints cs.
use Rattle.std.specs.Prelude.{◌≡◌, ℕ, ◌+◌, ◌<◌, ◌≤◌, Bool, true, List, ◌++◌, length, Option, Some, None, option_to_list}
use Rattle.seq_object.specs.declared.history.Entry.{Entry}
use Rattle.seq_object.specs.declared.history.Noted.{Noted}
use Rattle.life_model.specs.Life.{next_command, point_after}
use Rattle.yard_model.specs.declared.view.Phase.{Phase}
use Rattle.yard_model.specs.declared.view.Phase.TheVariants.{Closing}
use Rattle.yard_model.specs.declared.view.Beginning.{Beginning}
use Rattle.yard_model.specs.declared.view.Grip.{Grip}
use Rattle.yard_model.specs.declared.view.GivenBack.{GivenBack}
use Rattle.yard_model.specs.declared.view.TakenPosition.{TakenPosition}
use Rattle.yard_model.specs.declared.view.Checkpoint.{Checkpoint}
use Rattle.yard_model.specs.Entries.{thread_entries, room_entries}
use Rattle.yard_model.specs.Beginnings.{opening_of, sizes_at, covered_part}
use Rattle.yard_model.specs.Knows.{WasAtPlace, MayHold}
use Rattle.yard_model.specs.World.{dead}
use Rattle.seq_object.specs.Sizes.{thread_room, room_count}

-- LOCKS. What a view holds and gave back belongs to its phase, and the locks say so.
pub record HoldsRightly (b : Beginning) (locks : ℕ → ℕ) (tick i : ℕ) (phase : Phase) (done : ℕ) (grip : Option Grip)
    (given_back : Option GivenBack) (saw_off : Bool) : Type 0 where
  -- the lock of the room that it holds names it
  pub held : (g : Grip) → grip ≡ Some g → locks g.room ≡ i + 1
  -- the lock of the room that it gave back is dead
  pub given : (k : GivenBack) → given_back ≡ Some k → locks k.room ≡ dead
  -- who gave a room back holds none, and saw the power off
  pub one_room : (k : GivenBack) → given_back ≡ Some k → (grip ≡ None) × (saw_off ≡ true)
  -- it holds a room that it may hold in its phase
  pub may_hold : (g : Grip) → grip ≡ Some g → MayHold (sizes_at b) i phase done g.room × (g.room < room_count (sizes_at b))
  -- and the room that it gave back is such a one
  pub may_give : (k : GivenBack) → given_back ≡ Some k → MayHold (sizes_at b) i phase done k.room × (k.room < room_count (sizes_at b))
  -- where it saw the power off, the power is off
  pub off : saw_off ≡ true → b.limit ≤ tick

-- ENTRIES. A view has its own entries, and those of the room that it holds.

-- the entry drawn under a grip
abbrev pub drawn_of : Grip → List Noted
drawn_of g = option_to_list g.drawn

pub record HasOwnEntries (b : Beginning) (h : List Entry) (i : ℕ) (mine : List Noted) (grip : Option Grip) : Type 0 where
  -- its own entries are its thread's in the history
  pub own : mine ≡ thread_entries i h
  -- the entries of its room are the history as taken, and then the entry drawn
  pub held : (g : Grip) → grip ≡ Some g → room_entries (sizes_at b) g.room h ≡ g.history ++ drawn_of g

-- ROOMS IN HAND. What a view has of its room as taken is right.
pub record GripsRightly (b : Beginning) (h : List Entry) (cs : List Checkpoint) (phase : Phase) (g : Grip) : Type 0 where
  -- so many of the room's entries the last mark covers
  pub covered : g.covered ≡ length (room_entries (sizes_at b) g.room (covered_part h cs))
  -- the entry drawn since is not among them
  pub in_history : g.covered ≤ length g.history
  -- of a thread's room: memory had the restart point that the last mark covers
  pub point : (k : ℕ) → k < b.settings.threads → g.room ≡ thread_room (sizes_at b) k
      → (t : TakenPosition) × (g.position ≡ Some t) × (t.in_memory ≡ point_after (opening_of b) (covered_part h cs) k)
  -- and where the holder closes, the room was at its thread's place
  pub closing : phase ≡ Closing → (k : ℕ) → k < b.settings.threads → g.room ≡ thread_room (sizes_at b) k → (t : TakenPosition) → g.position ≡ Some t
      → WasAtPlace (point_after (opening_of b) h k) (next_command (opening_of b) h k) t
