-- The rows of the table of writes in the queue room: where the room stands for items, then behind the row's writes it stands for
-- the items that the sequential object has next.
use Rattle.std.specs.Prelude.{◌≡◌, ◌≢◌, ℕ, false, List, [], ◌∷◌, ◌++◌}
use Rattle.seq_object.specs.Object.{is_queue_full, rest_of}
use Rattle.room_model.specs.Chains.{RoomWords}
use Rattle.room_model.specs.QueueRoom.{IsQueueRoom}
use Rattle.room_model.specs.Writes.{written, is_full, enq_room, deq_item}
use Rattle.seq_object.specs.declared.sizes.Sizes.{Sizes}

-- an item at the back where there is room, of an empty queue or not: the line is the first of the free ones, or else the one at fresh
abbrev pub EnqLaw : Type 0
EnqLaw = (z : Sizes) (r : RoomWords) (items : List ℕ) (value : ℕ) → IsQueueRoom z r items → is_full z.lines r ≡ false → IsQueueRoom z (written r (enq_room r value)) (items ++ value ∷ [])

-- a room has no line left exactly where it has as many items as it can hold
abbrev pub QueueFullLaw : Type 0
QueueFullLaw = (z : Sizes) (r : RoomWords) (items : List ℕ) → IsQueueRoom z r items → is_full z.lines r ≡ is_queue_full z items

-- the front item taken off, where there is one: it is the last one or not
abbrev pub DeqLaw : Type 0
DeqLaw = (z : Sizes) (r : RoomWords) (items : List ℕ) → IsQueueRoom z r items → r 1 0 ≢ 0 → IsQueueRoom z (written r (deq_item r)) (rest_of items) × (items ≡ r (r 1 0) 0 ∷ rest_of items)

-- where no line is first, there is no item
abbrev pub DeqEmptyLaw : Type 0
DeqEmptyLaw = (z : Sizes) (r : RoomWords) (items : List ℕ) → IsQueueRoom z r items → r 1 0 ≡ 0 → items ≡ []
