-- The rows of the table of writes in a map room: where the room stands for pairs, then behind the row's writes it stands for the
-- pairs that the sequential object has next. Each law holds of every layout of the heads.
use Rattle.std.specs.Prelude.{◌≡◌, ◌≢◌, ℕ, ◌-◌, ◌==◌, nat_le, false, Some, None, if◌then◌else◌}
use Rattle.std.specs.FinMap.{get, insert, remove, len}
use Rattle.seq_object.specs.Object.{Pairs, shard_of}
use Rattle.room_model.specs.Chains.{RoomWords}
use Rattle.room_model.specs.MapRoom.{Layout, IsLayout, one_head_a_line, three_heads_a_line, live_layout, bucket_of, IsMapRoom, HasCapacity}
use Rattle.room_model.specs.Writes.{written, is_full, node_of, node_before, put_present, put_absent, del_present}
use Rattle.seq_object.specs.declared.sizes.Sizes.{Sizes}

-- the room stands for these pairs of its shard, and the key is one of the shard
pub record IsRoomOfKey (layout : Layout) (z : Sizes) (shard : ℕ) (r : RoomWords) (pairs : Pairs) (key : ℕ) : Type 0 where
  pub laid : IsLayout layout
  pub room : IsMapRoom layout z shard r pairs
  pub mine : shard_of z key ≡ shard

-- the two ways to lay out the heads, and the one in use, which leaves room for as many keys as a shard can hold
pub record LayoutsLaw : Type 0 where
  pub one_head : IsLayout one_head_a_line
  pub three_heads : IsLayout three_heads_a_line
  pub in_use : IsLayout live_layout
  pub capacity : (z : Sizes) → HasCapacity live_layout z

-- a key's value is that of the key's node, and a key without a node is in no pair
abbrev pub GetLaw : Type 0
GetLaw = (layout : Layout) (z : Sizes) (shard : ℕ) (r : RoomWords) (pairs : Pairs) (key : ℕ) → IsRoomOfKey layout z shard r pairs key
    → get pairs key ≡ (let n = node_of layout z r key in if n == 0 then None else Some (r n 1))

-- a put of a key that is there
abbrev pub PutPresentLaw : Type 0
PutPresentLaw = (layout : Layout) (z : Sizes) (shard : ℕ) (r : RoomWords) (pairs : Pairs) (key value : ℕ) → IsRoomOfKey layout z shard r pairs key → node_of layout z r key ≢ 0
    → IsMapRoom layout z shard (written r (put_present (node_of layout z r key) value)) (insert pairs key value)

-- a put of an absent key where there is room: the line is the first of the free ones, or else the one at fresh
abbrev pub PutAbsentLaw : Type 0
PutAbsentLaw = (layout : Layout) (z : Sizes) (shard : ℕ) (r : RoomWords) (pairs : Pairs) (key value : ℕ) → IsRoomOfKey layout z shard r pairs key → node_of layout z r key ≡ 0 → is_full z.lines r ≡ false
    → IsMapRoom layout z shard (written r (put_absent layout z r key value)) (insert pairs key value)

-- a room has no line left exactly where it has at least as many keys as it has lines for nodes
abbrev pub MapFullLaw : Type 0
MapFullLaw = (layout : Layout) (z : Sizes) (shard : ℕ) (r : RoomWords) (pairs : Pairs) → IsLayout layout → IsMapRoom layout z shard r pairs
    → is_full z.lines r ≡ nat_le (z.lines - layout.first) (len pairs)

-- a removal of a key that is there, at the head of a chain or inside
abbrev pub DelPresentLaw : Type 0
DelPresentLaw = (layout : Layout) (z : Sizes) (shard : ℕ) (r : RoomWords) (pairs : Pairs) (key : ℕ) → IsRoomOfKey layout z shard r pairs key → node_of layout z r key ≢ 0
    → IsMapRoom layout z shard (written r (del_present layout r (bucket_of z key) (node_before layout z r key) (node_of layout z r key))) (remove pairs key)

-- a removal of an absent key: the pairs are the same
abbrev pub DelAbsentLaw : Type 0
DelAbsentLaw = (layout : Layout) (z : Sizes) (shard : ℕ) (r : RoomWords) (pairs : Pairs) (key : ℕ) → IsRoomOfKey layout z shard r pairs key → node_of layout z r key ≡ 0
    → remove pairs key ≡ pairs
