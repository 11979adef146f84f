-- Images as lists: their sizes, their rooms, and which of them are whole.
use Rattle.std.specs.Prelude.{◌≡◌, ℕ, ◌<◌, ◌^◌, List, map, All, length}
use Rattle.std.specs.Global.{Vec}
use Rattle.seq_object.specs.Sizes.{AreValid}
use Rattle.room_model.specs.Image.{ImageRooms as Rooms, HasShape}
use Rattle.power_cut.specs.declared.image.Image.{Image}
use Rattle.seq_object.specs.declared.sizes.Sizes.{Sizes}

-- the lists of these vectors
abbrev pub lists_of : List (Vec (List ℕ)) → Rooms
lists_of rooms = map (λ (room : Vec (List ℕ)). room.items) rooms

-- the sizes that an image states
abbrev pub sizes_in : Image → Sizes
sizes_in image = record { threads = image.threads; shards = image.shards; lines = image.lines }

-- the rooms of an image, each with its lines of words
abbrev pub rooms_in : Image → Rooms
rooms_in image = lists_of image.rooms.items

-- eight words of 64 bits
pub record IsLineOfWords (words : List ℕ) : Type 0 where
  pub eight : length words ≡ 8
  pub small : All (λ word. word < 2 ^ 64) words

-- every line of every room has eight words of 64 bits
abbrev pub HaveWords : Rooms → Type 0
HaveWords rooms = All (λ room. All IsLineOfWords room) rooms

-- rooms are whole at these sizes: the sizes are within their limits, the rooms have this shape, and their words 64 bits
pub record AreWhole (z : Sizes) (rooms : Rooms) : Type 0 where
  pub valid : AreValid z
  pub shape : HasShape z rooms
  pub words : HaveWords rooms

-- an image is whole
abbrev pub IsWhole : Image → Type 0
IsWhole image = AreWhole (sizes_in image) (rooms_in image)
