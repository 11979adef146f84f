-- No fault is found exactly where there is none: in a room, in an image, and in what a life leaves.
use Rattle.std.specs.Prelude.{◌≡◌, ℕ, None, List}
use Rattle.seq_object.specs.Object.{Pairs}
use Rattle.seq_object.specs.declared.history.Entry.{Entry}
use Rattle.line_memory.specs.Line.{BankState}
use Rattle.room_model.specs.Chains.{RoomWords}
use Rattle.room_model.specs.MapRoom.{Layout, IsLayout, IsMapRoom, live_layout}
use Rattle.room_model.specs.QueueRoom.{IsQueueRoom}
use Rattle.room_model.specs.Image.{ImageRooms as Rooms, KeptCounts, IsLawful, image_of}
use Rattle.room_model.specs.Walks.{map_of, items_of}
use Rattle.life_model.specs.Life.{Opening, sizes}
use Rattle.life_model.specs.Crash.{IsCrashSafe}
use Rattle.power_cut.specs.Image.{AreWhole}
use Rattle.image_check.specs.QueueFaults.{queue_fault}
use Rattle.image_check.specs.MapFaults.{map_fault}
use Rattle.image_check.specs.ImageFaults.{image_fault}
use Rattle.seq_object.specs.declared.sizes.Sizes.{Sizes}

-- a queue room without a fault stands for the items of its walk
abbrev pub QueueSoundLaw : Type 0
QueueSoundLaw = (z : Sizes) (r : RoomWords) → queue_fault z r ≡ None → IsQueueRoom z r (items_of z r)

-- a queue room that stands for items has no fault
abbrev pub QueueCompleteLaw : Type 0
QueueCompleteLaw = (z : Sizes) (r : RoomWords) (items : List ℕ) → IsQueueRoom z r items → queue_fault z r ≡ None

-- a map room without a fault stands for the pairs of its walks
abbrev pub MapSoundLaw : Type 0
MapSoundLaw = (layout : Layout) (z : Sizes) (shard : ℕ) (r : RoomWords) → map_fault layout z shard r ≡ None → IsMapRoom layout z shard r (map_of layout z r)

-- a map room that stands for pairs has no fault
abbrev pub MapCompleteLaw : Type 0
MapCompleteLaw = (layout : Layout) (z : Sizes) (shard : ℕ) (r : RoomWords) (pairs : Pairs) → IsLayout layout → IsMapRoom layout z shard r pairs → map_fault layout z shard r ≡ None

-- a whole image without a fault is lawful
abbrev pub ImageSoundLaw : Type 0
ImageSoundLaw = (layout : Layout) (z : Sizes) (rooms : Rooms) → AreWhole z rooms → image_fault layout z rooms ≡ None → IsLawful layout z rooms

-- a lawful image has no fault
abbrev pub ImageCompleteLaw : Type 0
ImageCompleteLaw = (layout : Layout) (z : Sizes) (rooms : Rooms) → IsLayout layout → IsLawful layout z rooms → image_fault layout z rooms ≡ None

-- whatever a power cut leaves of a memory that is safe at one, it is lawful and has no fault
abbrev pub LeftLawfulLaw : Type 0
LeftLawfulLaw = (o : Opening) (h : List Entry) (marks : List ℕ) (memory : List BankState) → IsCrashSafe o h marks memory → (choice : KeptCounts)
    → IsLawful live_layout (sizes o) (image_of memory choice) × (image_fault live_layout (sizes o) (image_of memory choice) ≡ None)
