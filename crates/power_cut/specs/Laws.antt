-- Laws on images and their bytes.
use Rattle.std.specs.Prelude.{◌≡◌, None}
use Rattle.room_model.specs.Image.{ImageRooms as Rooms, KeptCounts as Choosing, image_of}
use Rattle.power_cut.specs.Image.{AreWhole}
use Rattle.power_cut.specs.Bytes.{image_bytes_of, first_fault}
use Rattle.power_cut.specs.Cut.{quiet_memory}
use Rattle.seq_object.specs.declared.sizes.Sizes.{Sizes}

-- the bytes of an image have no fault
abbrev pub SpellingsPassLaw : Type 0
SpellingsPassLaw = (z : Sizes) (rooms : Rooms) → AreWhole z rooms → first_fault (image_bytes_of z rooms) ≡ None

-- an image has one spelling, and no two images share theirs
abbrev pub OneSpellingLaw : Type 0
OneSpellingLaw = (z y : Sizes) (rooms others : Rooms) → AreWhole z rooms → AreWhole y others → image_bytes_of z rooms ≡ image_bytes_of y others → (z ≡ y) × (rooms ≡ others)

-- a memory that was made of an image and has nothing pending leaves that image under every choice
abbrev pub QuietMemoryLaw : Type 0
QuietMemoryLaw = (rooms : Rooms) (choice : Choosing) → image_of (quiet_memory rooms) choice ≡ rooms
