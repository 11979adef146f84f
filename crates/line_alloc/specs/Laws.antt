-- Laws on headers: rooms that stand for something have one, and when they have no line left.
use Rattle.std.specs.Prelude.{ℕ, List}
use Rattle.seq_object.specs.Object.{Pairs}
use Rattle.room_model.specs.Chains.{RoomWords}
use Rattle.room_model.specs.MapRoom.{live_layout, IsMapRoom}
use Rattle.room_model.specs.QueueRoom.{IsQueueRoom}
use Rattle.room_laws.specs.Stocks.{IsHeader}
use Rattle.seq_object.specs.declared.sizes.Sizes.{Sizes}

-- a map room has a header
abbrev pub MapHasHeaderLaw : Type 0
MapHasHeaderLaw = (z : Sizes) (shard : ℕ) (r : RoomWords) (pairs : Pairs) → IsMapRoom live_layout z shard r pairs → IsHeader z.lines r

-- the queue room has a header
abbrev pub QueueHasHeaderLaw : Type 0
QueueHasHeaderLaw = (z : Sizes) (r : RoomWords) (items : List ℕ) → IsQueueRoom z r items → IsHeader z.lines r
