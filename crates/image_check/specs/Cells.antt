-- A room of an image as code has it, and the words that its cells recover to.
use Rattle.std.specs.Prelude.{◌≡◌, length}
use Rattle.room_model.specs.Chains.{RoomWords}
use Rattle.room_model.specs.MapRoom.{Layout, layout_of}
use Rattle.room_model.specs.Image.{ImageRooms as Rooms, epoch_at, triples_at}
use Rattle.power_cut.specs.Image.{lists_of, AreWhole}
use Rattle.image_check.specs.declared.cells.Cells.{Cells}
use Rattle.image_check.specs.declared.view.View.{View}

-- the words of a room of an image
abbrev pub words_of : Cells → RoomWords
words_of cells = triples_at cells.epoch cells.lines.now

-- a map room or the queue room has its lines
abbrev pub HasLines : Cells → Type 0
HasLines cells = length cells.lines.now ≡ cells.sizes.lines

-- the rooms of an image that is viewed
abbrev pub rooms_of : View → Rooms
rooms_of view = lists_of view.rooms.now

-- the layout of its map rooms
abbrev pub layout_of_view : View → Layout
layout_of_view view = layout_of view.heads

-- what is viewed is a whole image, and its epoch
pub record IsView (view : View) : Type 0 where
  pub whole : AreWhole view.sizes (rooms_of view)
  pub epoch : view.epoch ≡ epoch_at view.sizes (rooms_of view)
