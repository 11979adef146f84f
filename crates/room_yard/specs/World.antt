-- A world: the rooms of a memory, all at home; and what a life begins with that opens with it.
use Rattle.std.specs.Prelude.{◌≡◌, ℕ, ◌-◌, ◌/◌, ◌^◌, ◌==◌, List, [], ◌∷◌, length, map, replicate, Some, if◌then◌else◌}
use Rattle.std.specs.List.{flat_map}
use Rattle.std.specs.FinMap.{entries}
use Rattle.seq_object.specs.declared.command.Command.{Command}
use Rattle.seq_object.specs.declared.settings.Settings.{Settings}
use Rattle.seq_object.specs.declared.history.RestartPoint.{RestartPoint}
use Rattle.line_memory.specs.Line.{BankState}
use Rattle.room_model.specs.MapRoom.{live_layout}
use Rattle.room_model.specs.Rooms.{point_in}
use Rattle.life_model.specs.declared.life.Life.{Life}
use Rattle.life_model.specs.declared.life.Life.TheVariants.{Start, Resume}
use Rattle.command_room.specs.Room.{contents_in}
use Rattle.planned_cells.specs.Planned.{IsAtRest}
use Rattle.rooms.specs.declared.room.Room.{Room}
use Rattle.rooms.specs.declared.room.Room.TheVariants.{Map, Queue, Thread, Super}
use Rattle.yard_model.specs.declared.view.Beginning.{Beginning}
use Rattle.rooms.specs.Rooms.{bank_of, loads}
use Rattle.yard_model.specs.World.{YardState}
use Rattle.yard_model.specs.Opens.{opening_views, IsOpeningWorld}

pub record WorldState : Type 0 where
  pub rooms : List Room  -- in the order of their numbers
  pub arrival : ℕ
  pub clock : ℕ
  pub held : List ℕ  -- the rooms that were given back in mid-work, ascending

-- the memory under these rooms
abbrev pub memory_of : List Room → List BankState
memory_of rooms = map bank_of rooms

-- what a room holds can be read off its loads
abbrev pub IsReadable : Room → Type 0
IsReadable (Map x) = IsAtRest x.cells x.plan
IsReadable (Queue x) = IsAtRest x.cells x.plan
IsReadable (Thread x) = Unit {0}
IsReadable (Super x) = Unit {0}

-- what each room has of the object and of the restart points
abbrev pub pairs_at : Room → List (ℕ × ℕ)
pairs_at (Map x) = entries (contents_in x).pairs
pairs_at (Queue x) = []
pairs_at (Thread x) = []
pairs_at (Super x) = []

abbrev pub items_at : Room → List ℕ
items_at (Map x) = []
items_at (Queue x) = (contents_in x).items
items_at (Thread x) = []
items_at (Super x) = []

abbrev pub points_at : Room → List RestartPoint
points_at (Map x) = []
points_at (Queue x) = []
points_at (Thread x) = point_in live_layout (loads (Thread x)) ∷ []
points_at (Super x) = []

-- a life starts where its first epoch is 1
abbrev pub first_life : ℕ → Life
first_life epoch = if epoch == 1 then Start else Resume

-- the epoch of the image before its first epoch: the one before, and 1 at a start
abbrev pub epoch_before : ℕ → ℕ
epoch_before epoch = if epoch == 1 then 1 else epoch - 1

-- what a life of these settings and scripts begins with, read off a world
abbrev pub beginning_with : Settings → List (List Command) → ℕ → WorldState → Beginning
beginning_with settings scripts limit w = record {
  settings = settings;
  scripts = scripts;
  life = first_life (w.arrival / 2 ^ 32);
  epoch = epoch_before (w.arrival / 2 ^ 32);
  pairs = flat_map pairs_at w.rooms;
  items = flat_map items_at w.rooms;
  points = flat_map points_at w.rooms;
  limit = limit;
  write_backs = map (λ (x : Room). (bank_of x).write_backs) w.rooms;
}

-- a beginning is of these settings, scripts and limit
pub record Begins (settings : Settings) (scripts : List (List Command)) (limit : ℕ) (b : Beginning) : Type 0 where
  pub settings_are : b.settings ≡ settings
  pub scripts_are : b.scripts ≡ scripts
  pub limit_is : b.limit ≡ limit

-- the yard of a world as a life opens: no tick, no entry, each lock free, each room at home, and the opening views
abbrev pub opening_yard : Beginning → WorldState → YardState
opening_yard b w = record { words = 0 ∷ 0 ∷ w.arrival ∷ replicate (length w.rooms) 0; rooms = map Some w.rooms; views = opening_views b }

-- a life that begins so opens with this world
pub record Opens (b : Beginning) (w : WorldState) : Type 0 where
  pub clock : w.clock ≡ 0
  pub held : w.held ≡ []
  pub yard : IsOpeningWorld b (opening_yard b w)

-- a life of these settings, scripts and limit may open with this world
pub record CanOpen (settings : Settings) (scripts : List (List Command)) (limit : ℕ) (w : WorldState) : Type 0 where
  pub beginning : Beginning
  pub begins : Begins settings scripts limit beginning
  pub opens : Opens beginning w
