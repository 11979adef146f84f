-- What the next event of a restore makes of a room, and of a list of rooms.
use Rattle.std.specs.Prelude.{◌≡◌, ℕ, ◌||◌, Bool, true, false, List, [], ◌∷◌, slice_index_or, if◌then◌else◌}
use Rattle.line_memory.specs.Line.{no_bank}
use Rattle.incll_var.specs.declared.restore.RestoreEvent.{RestoreEvent}
use Rattle.incll_var.specs.Cells.{MayRestore, after_next}
use Rattle.planned_cells.specs.Planned.{memory_words_in}
use Rattle.rooms.specs.declared.room.Room.{Room}
use Rattle.rooms.specs.declared.room.Room.TheVariants.{Super}
use Rattle.rooms.specs.Rooms.{cells_of, state_of, with_cells, IsWhole}

-- whether an event of these is left
abbrev pub are_left : List RestoreEvent → Bool
are_left [] = false
are_left (event ∷ events) = true

-- whether an event of the room's restore is left; the super room has none
abbrev pub has_left : Room → Bool
has_left x = are_left (cells_of x).todo

-- the room behind the next event of its restore; where none is left its cells are saved
abbrev pub restored : Room → Room
restored x = with_cells x (after_next (cells_of x))

-- the room is whole, and its restore may go on
pub record MayGoOn (x : Room) : Type 0 where
  pub whole : IsWhole x
  pub may : MayRestore (state_of x)

-- behind an event of a restore the room is whole, and memory holds of it what it held
pub record IsRestoredFrom (old new : Room) : Type 0 where
  pub whole : IsWhole new
  pub in_memory : memory_words_in (cells_of new) ≡ memory_words_in (cells_of old)

-- what stands where there is no room
abbrev pub no_room : Room
no_room = Super no_bank

-- a room of a list by its number
abbrev pub room_at : List Room → ℕ → Room
room_at rooms k = slice_index_or rooms k no_room

-- the rooms behind the next event: the first that has one left does it, and those before it are saved
abbrev pub restored_on : List Room → List Room
restored_on [] = []
restored_on (x ∷ xs) = restored x ∷ (if has_left x then xs else restored_on xs)

-- whether an event is left in some room
abbrev pub any_left : List Room → Bool
any_left [] = false
any_left (x ∷ xs) = has_left x || any_left xs
