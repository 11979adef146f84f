-- A room stands for one contents, which a walk gives and which rests on the record words alone; a formatted room stands for an object
-- that holds nothing; and where the writes of a room's commands go.
use Rattle.std.specs.Prelude.{◌≡◌, ℕ, ◌<◌, ◌≤◌, List, []}
use Rattle.std.specs.FinMap.{empty}
use Rattle.seq_object.specs.declared.command.Command.{Command}
use Rattle.seq_object.specs.Object.{Pairs, Contents, no_contents, room_of, part_of}
use Rattle.room_model.specs.Chains.{RoomWords, HasSameRecords}
use Rattle.room_model.specs.MapRoom.{Layout, IsLayout, IsMapRoom}
use Rattle.room_model.specs.QueueRoom.{IsQueueRoom}
use Rattle.room_model.specs.Rooms.{StandsFor, point_in}
use Rattle.room_model.specs.Writes.{writes_of, AreWithin}
use Rattle.room_model.specs.Formatted.{formatted, first_node}
use Rattle.room_model.specs.Walks.{map_of, items_of, contents_of, IsRoom}
use Rattle.seq_object.specs.declared.sizes.Sizes.{Sizes}

-- the meaning of a map room rests on the record words alone
abbrev pub MapWordsLaw : Type 0
MapWordsLaw = (layout : Layout) (z : Sizes) (shard : ℕ) (r other : RoomWords) (pairs : Pairs) → IsLayout layout → IsMapRoom layout z shard r pairs → HasSameRecords other r → IsMapRoom layout z shard other pairs

-- the meaning of the queue room rests on the record words alone
abbrev pub QueueWordsLaw : Type 0
QueueWordsLaw = (z : Sizes) (r other : RoomWords) (items : List ℕ) → IsQueueRoom z r items → HasSameRecords other r → IsQueueRoom z other items

-- the meaning of a room rests on the record words alone
abbrev pub WordsLaw : Type 0
WordsLaw = (layout : Layout) (z : Sizes) (room : ℕ) (r other : RoomWords) (c : Contents) → IsLayout layout → StandsFor layout z room r c → HasSameRecords other r → StandsFor layout z room other c

-- the restart point of a thread's room rests on the record words alone
abbrev pub PointWordsLaw : Type 0
PointWordsLaw = (layout : Layout) (r other : RoomWords) → HasSameRecords other r → point_in layout other ≡ point_in layout r

-- a formatted map room stands for no pairs
abbrev pub MapFormattedLaw : Type 0
MapFormattedLaw = (layout : Layout) (z : Sizes) (shard : ℕ) → IsLayout layout → layout.first ≤ z.lines → IsMapRoom layout z shard (formatted layout.first) empty

-- the formatted queue room stands for no items
abbrev pub QueueFormattedLaw : Type 0
QueueFormattedLaw = (z : Sizes) → 2 ≤ z.lines → IsQueueRoom z (formatted 2) []

-- a formatted room that has its lines up to the first node stands for the object as it begins
abbrev pub FormattedLaw : Type 0
FormattedLaw = (layout : Layout) (z : Sizes) (room : ℕ) → IsLayout layout → first_node layout z room ≤ z.lines → StandsFor layout z room (formatted (first_node layout z room)) no_contents

-- a map room stands for the pairs that the walks from its heads give, and for no others
abbrev pub MapPairsLaw : Type 0
MapPairsLaw = (layout : Layout) (z : Sizes) (shard : ℕ) (r : RoomWords) (pairs : Pairs) → IsLayout layout → IsMapRoom layout z shard r pairs → map_of layout z r ≡ pairs

-- the queue room stands for the items that the walk from its first line gives, and for no others
abbrev pub QueueItemsLaw : Type 0
QueueItemsLaw = (z : Sizes) (r : RoomWords) (items : List ℕ) → IsQueueRoom z r items → items_of z r ≡ items

-- a room that stands for what the object holds has that room's part of it, as the walks give it
abbrev pub ContentsLaw : Type 0
ContentsLaw = (layout : Layout) (z : Sizes) (room : ℕ) (r : RoomWords) (c : Contents) → IsLayout layout → StandsFor layout z room r c → contents_of layout z room r ≡ part_of z room c

-- a room stands for what the object holds exactly where it stands for its own part of that
pub record PartLaw : Type 0 where
  pub part : (layout : Layout) (z : Sizes) (room : ℕ) (r : RoomWords) (c : Contents) → StandsFor layout z room r c → StandsFor layout z room r (part_of z room c)
  pub whole : (layout : Layout) (z : Sizes) (room : ℕ) (r : RoomWords) (c : Contents) → StandsFor layout z room r (part_of z room c) → StandsFor layout z room r c

-- a room that stands for something stands for what its words give, and for all that the object may hold of which this is the room's part
pub record IsRoomLaw : Type 0 where
  pub stands : (layout : Layout) (z : Sizes) (room : ℕ) (r : RoomWords) (c : Contents) → IsLayout layout → StandsFor layout z room r c → IsRoom layout z room r
  pub whole : (layout : Layout) (z : Sizes) (room : ℕ) (r : RoomWords) (c : Contents) → IsRoom layout z room r → contents_of layout z room r ≡ part_of z room c → StandsFor layout z room r c

-- each write of a command of a room goes to a record word of a line of the room
abbrev pub WithinLaw : Type 0
WithinLaw = (layout : Layout) (z : Sizes) (room : ℕ) (r : RoomWords) (c : Contents) (command : Command) → IsLayout layout → 0 < z.shards → StandsFor layout z room r c → room_of z command ≡ room
    → AreWithin z.lines (writes_of layout z r command)
