-- What a yard shows of how its life ends: whether the life is over, and the ends of the threads' rooms.
use Rattle.std.specs.Prelude.{◌≡◌, ◌≢◌, ℕ, ◌<◌, true, false, List, [], ◌∷◌, ◌++◌}
use Rattle.seq_object.specs.declared.history.Entry.{Entry}
use Rattle.life_model.specs.declared.life.Outcome.{Outcome}
use Rattle.life_model.specs.declared.life.Outcome.TheVariants.{Finished, Stalled, Cut, Starved}
use Rattle.life_model.specs.Ends.{IsFinished, EndsAs}
use Rattle.life_model.specs.Work.{HasNoTake}
use Rattle.restart_point.specs.declared.thread_end.ThreadEnd.TheVariants.{Waits}
use Rattle.rooms.specs.declared.room.Room.{Room}
use Rattle.yard_model.specs.declared.view.Beginning.{Beginning}
use Rattle.yard_model.specs.declared.view.Checkpoint.{Checkpoint}
use Rattle.rooms.specs.Rooms.{end_of}
use Rattle.yard_model.specs.Beginnings.{opening_of, sizes_at, marks_of, is_over}
use Rattle.yard_model.specs.World.{YardState, Home}
use Rattle.yard_model.specs.Lawful.{Lawful}
use Rattle.seq_object.specs.Sizes.{thread_room}

-- no thread waits for an item
abbrev pub NoneWaits : Beginning → YardState → Type 0
NoneWaits b w = (i : ℕ) (x : Room) → i < b.settings.threads → Home w (thread_room (sizes_at b) i) x → end_of x ≢ Waits

-- a thread waits for an item
pub record SomeWaits (b : Beginning) (w : YardState) : Type 0 where
  pub thread : ℕ
  pub room : Room
  pub within : thread < b.settings.threads
  pub home : Home w (thread_room (sizes_at b) thread) room
  pub waits : end_of room ≡ Waits

-- the yard shows that its life ends so: it is over and none waits; it is over and one waits; it is not over. Want of memory is free.
abbrev pub ShowsEnd : Outcome → Beginning → YardState → List Checkpoint → Type 0
ShowsEnd Finished b w cs = (is_over b cs ≡ true) × NoneWaits b w
ShowsEnd Stalled b w cs = (is_over b cs ≡ true) × SomeWaits b w
ShowsEnd Cut b w cs = is_over b cs ≡ false
ShowsEnd Starved b w cs = Unit {0}

-- a life ends as its yard shows
abbrev pub LifeEndsLaw : Type 0
LifeEndsLaw = (outcome : Outcome) (b : Beginning) (w : YardState) (h : List Entry) (cs : List Checkpoint) → Lawful b w h cs → ShowsEnd outcome b w cs
    → EndsAs outcome (opening_of b) h (marks_of b cs)

-- and a life that is finished is over
abbrev pub FinishedIsOverLaw : Type 0
FinishedIsOverLaw = (b : Beginning) (w : YardState) (h : List Entry) (cs : List Checkpoint) → Lawful b w h cs → IsFinished (opening_of b) h (marks_of b cs)
    → is_over b cs ≡ true

-- a checkpoint that ended the life is the last one, and the life is over
abbrev pub OverIsLastLaw : Type 0
OverIsLastLaw = (b : Beginning) (w : YardState) (h : List Entry) (front back : List Checkpoint) (m : Checkpoint) → Lawful b w h (front ++ m ∷ back) → m.over ≡ true
    → (back ≡ []) × (is_over b (front ++ m ∷ back) ≡ true)

-- where the life is over and its scripts have no take, none waits
abbrev pub NoneWaitsWithoutTakeLaw : Type 0
NoneWaitsWithoutTakeLaw = (b : Beginning) (w : YardState) (h : List Entry) (cs : List Checkpoint) → Lawful b w h cs → is_over b cs ≡ true
    → HasNoTake (opening_of b) → NoneWaits b w
