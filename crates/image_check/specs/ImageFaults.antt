-- The first fault of an image whose bytes are right: its epoch, then the tags of its cells, then its rooms, each in the order of
-- their numbers.
use Rattle.std.specs.Prelude.{ℕ, zero, suc, ◌^◌, ◌&&◌, nat_le, nat_lt, Option, Some, None, List, [], length, slice_index_or, if◌then◌else◌}
use Rattle.seq_object.specs.Sizes.{super_room}
use Rattle.room_model.specs.Cell.{tag_of}
use Rattle.room_model.specs.MapRoom.{Layout}
use Rattle.room_model.specs.Image.{ImageRooms as Rooms, lines_at, epoch_at, recovered_room}
use Rattle.power_cut.specs.declared.fault.ImageFault.{ImageFault}
use Rattle.power_cut.specs.declared.fault.ImageFault.TheVariants.{Epoch, TagAhead, Header, Chain, FreeList, Count, Ends}
use Rattle.image_check.specs.declared.room_fault.RoomFault.{RoomFault}
use Rattle.image_check.specs.declared.room_fault.RoomFault.TheVariants.{BadHeader, BadChain, BadEnds, BadFreeList, BadCount}
use Rattle.image_check.specs.QueueFaults.{queue_fault}
use Rattle.image_check.specs.MapFaults.{map_fault}
use Rattle.seq_object.specs.declared.sizes.Sizes.{Sizes}

-- the first fault where there is one, and else the other
abbrev pub or_fault : Option ImageFault → Option ImageFault → Option ImageFault
or_fault (Some fault) other = Some fault
or_fault None other = other

-- the first of the faults of the numbers below this one
abbrev pub first_below : (ℕ → Option ImageFault) → ℕ → Option ImageFault
first_below fault zero = None
first_below fault (suc n) = or_fault (first_below fault n) (fault n)

-- the epoch is 0, or too large
abbrev pub epoch_fault : ℕ → Option ImageFault
epoch_fault epoch = if nat_le 1 epoch && nat_lt epoch (2 ^ 32) then None else Some Epoch

-- the tag of a line of a room is ahead of the epoch
abbrev pub tag_fault : ℕ → ℕ → List (List ℕ) → ℕ → Option ImageFault
tag_fault epoch room lines line = if nat_le (tag_of (slice_index_or lines line [])) epoch then None else Some (TagAhead room line)

-- the first tag of a room's lines that is ahead
abbrev pub room_tag_fault : ℕ → ℕ → List (List ℕ) → Option ImageFault
room_tag_fault epoch room lines = first_below (tag_fault epoch room lines) (length lines)

-- the first tag of all rooms but the super room that is ahead
abbrev pub tags_fault : Sizes → Rooms → Option ImageFault
tags_fault z rooms = first_below (λ room. room_tag_fault (epoch_at z rooms) room (lines_at rooms room)) (super_room z)

-- a fault of a room, with the room's number
abbrev pub with_room : ℕ → RoomFault → ImageFault
with_room room BadHeader = Header room
with_room room BadChain = Chain room
with_room room BadEnds = Ends room
with_room room BadFreeList = FreeList room
with_room room BadCount = Count room

-- the fault of a room, where it has one
abbrev pub fault_in : ℕ → Option RoomFault → Option ImageFault
fault_in room (Some fault) = Some (with_room room fault)
fault_in room None = None

-- the first fault of a map room
abbrev pub map_room_fault : Layout → Sizes → Rooms → ℕ → Option ImageFault
map_room_fault layout z rooms room = fault_in room (map_fault layout z room (recovered_room z rooms room))

-- the first fault of all map rooms
abbrev pub maps_fault : Layout → Sizes → Rooms → Option ImageFault
maps_fault layout z rooms = first_below (map_room_fault layout z rooms) z.shards

-- the first fault of the queue room
abbrev pub queue_room_fault : Sizes → Rooms → Option ImageFault
queue_room_fault z rooms = fault_in z.shards (queue_fault z (recovered_room z rooms z.shards))

-- the first fault of an image
abbrev pub image_fault : Layout → Sizes → Rooms → Option ImageFault
image_fault layout z rooms = or_fault (epoch_fault (epoch_at z rooms)) (or_fault (tags_fault z rooms) (or_fault (maps_fault layout z rooms) (queue_room_fault z rooms)))
