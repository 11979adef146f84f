-- What contracts see of a plain yard: what its life began with, and its whole state. And of a handle on it: its thread too.
use Rattle.std.specs.Prelude.{◌≡◌, ℕ, ◌<◌, List, [], length, map, slice_index_or, Some, None}
use Rattle.rooms.specs.declared.room.Room.{Room}
use Rattle.yard_model.specs.declared.view.Beginning.{Beginning}
use Rattle.yard_model.specs.declared.view.View.{View}
use Rattle.yard_model.specs.World.{YardState, ViewIs}
use Rattle.yard_model.specs.Opens.{opening_view}
use Rattle.yard_model.specs.Lawful.{Lawful}
use Rattle.room_yard.specs.Told.{Told}
use Rattle.room_yard.specs.World.{WorldState, opening_yard}

pub record ShownYard : Type 0 where
  pub beginning : Beginning
  pub told : Told

-- the view of a thread
abbrev pub view_at : ShownYard → ℕ → View
view_at y i = slice_index_or y.told.world.views i (opening_view y.beginning i)

-- there is such a thread
abbrev pub IsThread : ShownYard → ℕ → Type 0
IsThread y i = i < length y.told.world.views

-- its state is lawful
abbrev pub IsLawfulYard : ShownYard → Type 0
IsLawfulYard y = Lawful y.beginning y.told.world y.told.history y.told.checkpoints

-- no thread holds a room
abbrev pub NoneHolds : ShownYard → Type 0
NoneHolds y = (i : ℕ) (v : View) → ViewIs y.told.world i v → v.grip ≡ None

-- the state with which a life opens on a world: no entry is drawn, and no checkpoint released
abbrev pub opening_told : Beginning → WorldState → Told
opening_told b w = record { world = opening_yard b w; history = []; checkpoints = [] }

-- these rooms are all that the yard has, each at home, in the order of their numbers
abbrev pub AreAtHome : YardState → List Room → Type 0
AreAtHome w rooms = map Some rooms ≡ w.rooms

pub record ShownPost : Type 0 where
  pub yard : ShownYard
  pub thread : ℕ

-- the view of its thread
abbrev pub view_of : ShownPost → View
view_of p = view_at p.yard p.thread

-- the state is lawful, and the thread is one of its threads
pub record IsLawfulPost (p : ShownPost) : Type 0 where
  pub lawful : IsLawfulYard p.yard
  pub thread : IsThread p.yard p.thread
