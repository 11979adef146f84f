-- What a room's header says, where a room's lines lie, and where the walk for a key goes.
use Rattle.std.specs.Prelude.{◌≡◌, ◌≢◌, ℕ, ◌+◌, ◌<◌, ◌≤◌, false, if◌then◌else◌, ◌==◌, List, length}
use Rattle.std.specs.FinMap.{len}
use Rattle.seq_object.specs.Object.{Pairs}
use Rattle.seq_object.specs.History.{total}
use Rattle.room_model.specs.Chains.{RoomWords, times, is_node}
use Rattle.room_model.specs.MapRoom.{Layout, IsLayout, head, bucket_of, IsMapRoom}
use Rattle.room_model.specs.QueueRoom.{IsQueueRoom}
use Rattle.room_model.specs.Writes.{taken_line, is_full, node_of, node_before}
use Rattle.room_model.specs.Walks.{IsWalk}
use Rattle.seq_object.specs.declared.sizes.Sizes.{Sizes}

-- a line of the room for nodes
pub record IsNodeLine (first : ℕ) (z : Sizes) (line : ℕ) : Type 0 where
  pub low : first ≤ line
  pub high : line < z.lines

-- the line that a map room takes is one for nodes, and is in no chain
abbrev pub MapTakeLaw : Type 0
MapTakeLaw = (layout : Layout) (z : Sizes) (shard : ℕ) (r : RoomWords) (pairs : Pairs) → IsLayout layout → (room : IsMapRoom layout z shard r pairs) → is_full z.lines r ≡ false
    → IsNodeLine layout.first z (taken_line r) × ((b : ℕ) → b < 8 → times (taken_line r) (room.chain b) ≡ 0)

-- the line that the queue room takes is one for nodes, and is not in the chain
abbrev pub QueueTakeLaw : Type 0
QueueTakeLaw = (z : Sizes) (r : RoomWords) (items : List ℕ) → (room : IsQueueRoom z r items) → is_full z.lines r ≡ false → IsNodeLine 2 z (taken_line r) × (times (taken_line r) room.chain ≡ 0)

-- what the header of a room says where the room holds this many pairs or items
pub record HeaderSays (first : ℕ) (z : Sizes) (held : ℕ) (r : RoomWords) : Type 0 where
  pub count : r 0 2 ≡ held
  pub held_fits : held + first ≤ r 0 1
  pub fresh_fits : r 0 1 ≤ z.lines
  pub free_low : r 0 0 ≢ 0 → first ≤ r 0 0
  pub free_high : r 0 0 ≢ 0 → r 0 0 < r 0 1

-- the header of a map room
abbrev pub MapHeaderLaw : Type 0
MapHeaderLaw = (layout : Layout) (z : Sizes) (shard : ℕ) (r : RoomWords) (pairs : Pairs) → IsLayout layout → IsMapRoom layout z shard r pairs → HeaderSays layout.first z (len pairs) r

-- the header of the queue room
abbrev pub QueueHeaderLaw : Type 0
QueueHeaderLaw = (z : Sizes) (r : RoomWords) (items : List ℕ) → IsQueueRoom z r items → HeaderSays 2 z (length items) r

-- the header of a room of so many lines: the first free line is one of the room, 0 where none is free, and of the lines that were given
-- out there are no more than the room has
pub record IsHeader (lines : ℕ) (r : RoomWords) : Type 0 where
  pub free : r 0 0 < lines
  pub fresh : r 0 1 ≤ lines

-- the words of the queue room that name lines, and its count
pub record QueueBounds (z : Sizes) (r : RoomWords) : Type 0 where
  pub header : IsHeader z.lines r
  pub two : 2 ≤ z.lines
  pub first : r 1 0 < z.lines
  pub last : r 1 1 < z.lines
  pub count : r 0 2 + 2 ≤ z.lines
  pub some : r 1 0 ≢ 0 → 0 < r 0 2

-- they name lines of the room
abbrev pub QueueBoundsLaw : Type 0
QueueBoundsLaw = (z : Sizes) (r : RoomWords) (items : List ℕ) → IsQueueRoom z r items → QueueBounds z r

-- what a key of a map room leads to: its head and its node lie in the room, as does the node before it, and a room with a node counts it
pub record MapBounds (layout : Layout) (z : Sizes) (r : RoomWords) (key : ℕ) : Type 0 where
  pub header : IsHeader z.lines r
  pub count : r 0 2 + layout.first ≤ z.lines
  pub head : layout.head_line (bucket_of z key) < z.lines
  pub node : node_of layout z r key < z.lines
  pub before : node_of layout z r key ≢ 0 → node_before layout z r key < z.lines
  pub some : node_of layout z r key ≢ 0 → 0 < r 0 2

-- all that a key leads to lies in the room
abbrev pub MapBoundsLaw : Type 0
MapBoundsLaw = (layout : Layout) (z : Sizes) (shard : ℕ) (r : RoomWords) (pairs : Pairs) (key : ℕ) → IsLayout layout → IsMapRoom layout z shard r pairs → MapBounds layout z r key

-- the walk for a key stays in the room, and ends
abbrev pub WalkLaw : Type 0
WalkLaw = (layout : Layout) (z : Sizes) (shard : ℕ) (r : RoomWords) (pairs : Pairs) (key : ℕ) → IsLayout layout → IsMapRoom layout z shard r pairs → IsWalk r z.lines z.lines (head layout r (bucket_of z key))

-- no line stands twice in a list or in two of these lists, each is one that was given out, and each that was given out is in a list
pub record AreApart (first fresh : ℕ) (lists : ℕ → List ℕ) (n : ℕ) : Type 0 where
  pub once : (k x : ℕ) → k < n → times x (lists k) ≤ 1
  pub apart : (k j x : ℕ) → k < n → j < n → k ≢ j → 0 < times x (lists k) → times x (lists j) ≡ 0
  pub low : (k x : ℕ) → k < n → 0 < times x (lists k) → first ≤ x
  pub high : (k x : ℕ) → k < n → 0 < times x (lists k) → x < fresh
  pub all : (x : ℕ) → first ≤ x → x < fresh → (k : ℕ) × (k < n) × (0 < times x (lists k))

-- the counting of lines says just this: each line from the first node line to the one before fresh stands once in one of the lists, and
-- no other line does
pub record CountingLaw : Type 0 where
  pub said : (first fresh : ℕ) (lists : ℕ → List ℕ) (n : ℕ) → ((x : ℕ) → total (λ k. times x (lists k)) n ≡ (if is_node first fresh x then 1 else 0)) → AreApart first fresh lists n
  pub back : (first fresh : ℕ) (lists : ℕ → List ℕ) (n : ℕ) → AreApart first fresh lists n → (x : ℕ) → total (λ k. times x (lists k)) n ≡ (if is_node first fresh x then 1 else 0)

-- the chains of a map room, with the free lines as the last of nine lists
abbrev pub map_lists : (ℕ → List ℕ) → List ℕ → ℕ → List ℕ
map_lists chain free k = if k == 8 then free else chain k

-- the chain of the queue room, and the free lines
abbrev pub queue_lists : List ℕ → List ℕ → ℕ → List ℕ
queue_lists chain free k = if k == 1 then free else chain

-- the chains and the free lines of a map room are apart
abbrev pub MapChainsLaw : Type 0
MapChainsLaw = (layout : Layout) (z : Sizes) (shard : ℕ) (r : RoomWords) (pairs : Pairs) (room : IsMapRoom layout z shard r pairs) → AreApart layout.first (r 0 1) (map_lists room.chain room.free) 9

-- the chain and the free lines of the queue room are apart
abbrev pub QueueChainsLaw : Type 0
QueueChainsLaw = (z : Sizes) (r : RoomWords) (items : List ℕ) (room : IsQueueRoom z r items) → AreApart 2 (r 0 1) (queue_lists room.chain room.free) 2
