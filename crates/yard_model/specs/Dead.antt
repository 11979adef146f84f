-- A room that was given back in mid-work: some first stores of one command may be made in it, and the others not.
use Rattle.std.specs.Prelude.{◌≡◌, ℕ, ◌≤◌, Bool, true, false, List, Option, Some, None}
use Rattle.seq_object.specs.declared.command.Command.{Command}
use Rattle.rooms.specs.declared.room.Room.{Room}
use Rattle.rooms.specs.Rooms.{loads}
use Rattle.seq_object.specs.declared.history.Entry.{Entry}
use Rattle.life_model.specs.Life.{next_command, contents_now}
use Rattle.life_model.specs.Present.{LoadsFirstStores}
use Rattle.yard_model.specs.declared.view.Phase.{Phase}
use Rattle.yard_model.specs.declared.view.Beginning.{Beginning}
use Rattle.yard_model.specs.declared.view.GivenBack.{GivenBack}
use Rattle.yard_model.specs.declared.view.Checkpoint.{Checkpoint}
use Rattle.yard_model.specs.Beginnings.{opening_of, sizes_at, epoch_now}
use Rattle.yard_model.specs.Knows.{is_closing}

-- the command whose stores may have begun under a lock: none where the thread closes, or had drawn an entry
abbrev pub begun_by : Bool → Bool → Option Command → Option Command
begun_by true closing next = None
begun_by false true next = None
begun_by false false next = next

-- a room of commands that a view gave back loads what its part loads behind some first stores of the thread's next command
abbrev pub LeftRoom : Beginning → List Entry → List Checkpoint → (ℕ → Room → Type 0) → ℕ → Phase → Option GivenBack → Type 0
LeftRoom b h cs home i phase given_back = (k : GivenBack) → given_back ≡ Some k → k.room ≤ b.settings.shards → (x : Room) → home k.room x
    → LoadsFirstStores (sizes_at b) (epoch_now b cs) k.room (begun_by k.drew (is_closing phase) (next_command (opening_of b) h i)) (loads x)
    (contents_now (opening_of b) h)
