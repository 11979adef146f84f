-- What the rooms of cells stand for: their parts of what the object holds.
use Rattle.std.specs.Prelude.{ℕ, ◌==◌, MatchBool}
use Rattle.seq_object.specs.Object.{Contents, shard_pairs}
use Rattle.room_model.specs.Chains.{RoomWords}
use Rattle.room_model.specs.MapRoom.{Layout, IsMapRoom}
use Rattle.room_model.specs.QueueRoom.{IsQueueRoom}
use Rattle.seq_object.specs.declared.history.RestartPoint.{RestartPoint}
use Rattle.seq_object.specs.declared.sizes.Sizes.{Sizes}

-- the restart point that a thread's room stands for
abbrev pub point_in : Layout → RoomWords → RestartPoint
point_in layout r = record { position = r 0 0 }

-- a room of cells stands for its part of what the object holds: the queue room for the items, a map room for its shard's pairs; it is said of
-- the rooms up to the queue room
abbrev pub StandsFor : Layout → Sizes → ℕ → RoomWords → Contents → Type 0
StandsFor layout z room r c = MatchBool (room == z.shards) (IsQueueRoom z r c.items) (IsMapRoom layout z room r (shard_pairs z room c.pairs))
