-- The bytes of an image, and the first fault of bytes that are none.
use Rattle.std.specs.Prelude.{ℕ, ◌+◌, ◌*◌, ◌==◌, nat_eq, nat_lt, not, if◌then◌else◌, List, ◌++◌, length, drop, codes, Option, Some, None}
use Rattle.std.specs.List.{flat_map, starts_with}
use Rattle.byteorder.specs.Endian.{little_bytes, little_number}
use Rattle.seq_object.specs.Sizes.{line_total, are_valid}
use Rattle.room_model.specs.Image.{ImageRooms as Rooms}
use Rattle.power_cut.specs.declared.fault.ImageFault.{ImageFault}
use Rattle.power_cut.specs.declared.fault.ImageFault.TheVariants.{Short, Long, Magic, Version, Settings}
use Rattle.seq_object.specs.declared.sizes.Sizes.{Sizes}

-- the eight bytes that an image begins with
abbrev pub magic : List ℕ
magic = codes "RESPCTIM"

-- the bytes before the words: the magic, the version 1, and the sizes
abbrev pub head_bytes : Sizes → List ℕ
head_bytes z = magic ++ (little_bytes 4 1 ++ (little_bytes 4 z.threads ++ (little_bytes 4 z.shards ++ little_bytes 4 z.lines)))

-- the bytes of a line: those of its words, one after the other
abbrev pub line_bytes : List ℕ → List ℕ
line_bytes words = flat_map (little_bytes 8) words

-- the bytes of a room: those of its lines
abbrev pub room_bytes : List (List ℕ) → List ℕ
room_bytes lines = flat_map line_bytes lines

-- the bytes of rooms, one after the other
abbrev pub rooms_bytes : Rooms → List ℕ
rooms_bytes rooms = flat_map room_bytes rooms

-- the bytes of an image of these sizes and rooms
abbrev pub image_bytes_of : Sizes → Rooms → List ℕ
image_bytes_of z rooms = head_bytes z ++ rooms_bytes rooms

-- the number in the four bytes from a place on
abbrev pub number_at : List ℕ → ℕ → ℕ
number_at bytes at = little_number 4 (drop at bytes)

-- the sizes that bytes state
abbrev pub sizes_at : List ℕ → Sizes
sizes_at bytes = record { threads = number_at bytes 12; shards = number_at bytes 16; lines = number_at bytes 20 }

-- how many bytes an image of these sizes has
abbrev pub image_length : Sizes → ℕ
image_length z = 24 + 64 * line_total z

-- the fault of a length, where another is wanted
abbrev pub length_fault : ℕ → ℕ → Option ImageFault
length_fault wanted n = if nat_lt n wanted then Some Short else (if nat_lt wanted n then Some Long else None)

-- the first fault of bytes that have a head
abbrev pub head_fault : List ℕ → Option ImageFault
head_fault bytes =
    if not (starts_with nat_eq bytes magic) then Some Magic
    else (if not (number_at bytes 8 == 1) then Some Version
    else (if not (are_valid (sizes_at bytes)) then Some Settings
    else length_fault (image_length (sizes_at bytes)) (length bytes)))

-- the first fault of bytes, where they are no image
abbrev pub first_fault : List ℕ → Option ImageFault
first_fault bytes = if nat_lt (length bytes) 24 then Some Short else head_fault bytes
