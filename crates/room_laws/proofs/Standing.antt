-- What a room stands for, by whether it is the queue room or a map room.
use Rattle.std.proofs.Common.{◌≢◌, ℕ, Bool, refl, sym, subst, eq-eqb}
use Rattle.std.proofs.lemmas.Bool.{ne_eqb}
use Rattle.std.specs.Prelude.{MatchBool}
use Rattle.seq_object.specs.Object.{Contents, shard_pairs}
use Rattle.room_model.specs.Chains.{RoomWords}
use Rattle.room_model.specs.MapRoom.{Layout, IsMapRoom}
use Rattle.room_model.specs.QueueRoom.{IsQueueRoom}
use Rattle.room_model.specs.Rooms.{StandsFor}
use Rattle.seq_object.specs.declared.sizes.Sizes.{Sizes}

-- the two sides of what a room stands for
abbrev pub Stands : Layout → Sizes → ℕ → RoomWords → Contents → Bool → Type 0
Stands layout z room r c b = MatchBool b (IsQueueRoom z r c.items) (IsMapRoom layout z room r (shard_pairs z room c.pairs))

-- the queue room that stands for what the object holds stands for the items
pub queue_of : (layout : Layout) (z : Sizes) (r : RoomWords) (c : Contents) → StandsFor layout z z.shards r c → IsQueueRoom z r c.items
queue_of layout z r c h = subst (Stands layout z z.shards r c) (eq-eqb z.shards z.shards refl) h

-- and the other way round
pub of_queue : (layout : Layout) (z : Sizes) (r : RoomWords) (c : Contents) → IsQueueRoom z r c.items → StandsFor layout z z.shards r c
of_queue layout z r c h = subst (Stands layout z z.shards r c) (sym (eq-eqb z.shards z.shards refl)) h

-- a map room that stands for what the object holds stands for its shard's pairs
pub map_room_of : (layout : Layout) (z : Sizes) (room : ℕ) (r : RoomWords) (c : Contents) → room ≢ z.shards → StandsFor layout z room r c → IsMapRoom layout z room r (shard_pairs z room c.pairs)
map_room_of layout z room r c ne h = subst (Stands layout z room r c) (ne_eqb room z.shards ne) h

-- and the other way round
pub of_map_room : (layout : Layout) (z : Sizes) (room : ℕ) (r : RoomWords) (c : Contents) → room ≢ z.shards → IsMapRoom layout z room r (shard_pairs z room c.pairs) → StandsFor layout z room r c
of_map_room layout z room r c ne h = subst (Stands layout z room r c) (sym (ne_eqb room z.shards ne)) h
