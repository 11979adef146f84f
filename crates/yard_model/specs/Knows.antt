-- What a view says of its thread.
use Rattle.std.specs.Prelude.{◌≡◌, ℕ, ◌-◌, ◌≤◌, ◌↔◌, ◌⊎◌, Bool, true, false, Option, Some, None}
use Rattle.seq_object.specs.declared.command.Command.{Command}
use Rattle.seq_object.specs.declared.command.Command.TheVariants.{Take}
use Rattle.seq_object.specs.Sizes.{thread_room}
use Rattle.seq_object.specs.declared.history.RestartPoint.{RestartPoint}
use Rattle.life_model.specs.Life.{point_now, next_at}
use Rattle.room_model.specs.MapRoom.{live_layout}
use Rattle.room_model.specs.Rooms.{point_in}
use Rattle.restart_point.specs.declared.thread_end.ThreadEnd.TheVariants.{Waits, Ended}
use Rattle.rooms.specs.declared.room.Room.{Room}
use Rattle.yard_model.specs.declared.view.Phase.{Phase}
use Rattle.yard_model.specs.declared.view.Phase.TheVariants.{Standing, Running, Closing}
use Rattle.yard_model.specs.declared.view.TakenPosition.{TakenPosition}
use Rattle.yard_model.specs.declared.view.View.{View}
use Rattle.yard_model.specs.Entries.{entries_of}
use Rattle.rooms.specs.Rooms.{loads, end_of}
use Rattle.yard_model.specs.Beginnings.{opening_of, sizes_at, first_epoch}
use Rattle.seq_object.specs.declared.sizes.Sizes.{Sizes}

-- whether the thread is at its restart point, where one that closes is too
abbrev pub stands : Phase → Bool
stands Standing = true
stands Running = false
stands Closing = true

-- whether it closes
abbrev pub is_closing : Phase → Bool
is_closing Standing = false
is_closing Running = false
is_closing Closing = true

-- the sizes of the memory
abbrev pub sizes_known : View → Sizes
sizes_known v = sizes_at v.beginning

-- its restart point behind all its own entries, and the place in its script there
abbrev pub point_of : View → RestartPoint
point_of v = point_now (opening_of v.beginning) v.thread (entries_of v.own)

abbrev pub place_of : View → ℕ
place_of v = (point_of v).position

-- its next command, and none where its script is used
abbrev pub next_of : View → Option Command
next_of v = next_at (opening_of v.beginning) v.thread (entries_of v.own)

-- how many checkpoints were released before the epoch in which it last ran
abbrev pub closings_known : View → ℕ
closings_known v = v.ran - first_epoch v.beginning

-- a thread has a cause to stand: its quota is spent, its script is used, or its take found the queue empty
abbrev pub HasCause : ℕ → Bool → Option Command → Type 0
HasCause quota found_empty next = (quota ≡ 0) ⊎ ((next ≡ None) ⊎ ((next ≡ Some Take) × (found_empty ≡ true)))

-- a thread's room is at a place where this is the thread's next command: it loads this restart point, and its end belongs to it
pub record IsAtPlace (place : RestartPoint) (next : Option Command) (x : Room) : Type 0 where
  pub point : point_in live_layout (loads x) ≡ place
  pub ended : (end_of x ≡ Ended) ↔ (next ≡ None)
  pub waits : end_of x ≡ Waits → next ≡ Some Take

-- so it was as it was taken
pub record WasAtPlace (place : RestartPoint) (next : Option Command) (t : TakenPosition) : Type 0 where
  pub point : t.point ≡ place
  pub ended : (t.end ≡ Ended) ↔ (next ≡ None)
  pub waits : t.end ≡ Waits → next ≡ Some Take

-- a room that a thread may hold: none where it stands, where it runs a room of commands or its own, where it closes the next one, behind
-- those that are done
abbrev pub MayHold : Sizes → ℕ → Phase → ℕ → ℕ → Type 0
MayHold z thread Standing done r = ⊥
MayHold z thread Running done r = (r ≤ z.shards) ⊎ (r ≡ thread_room z thread)
MayHold z thread Closing done r = r ≡ done
