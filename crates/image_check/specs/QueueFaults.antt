-- The first fault of the queue room, in the order of the checks: its header, its chain, its last line, its free lines, its counts.
use Rattle.std.specs.Prelude.{ℕ, ◌+◌, ◌-◌, ◌==◌, ◌&&◌, ◌||◌, nat_le, Bool, Option, Some, None, List, [], length, if◌then◌else◌}
use Rattle.room_model.specs.Chains.{RoomWords, is_node}
use Rattle.image_check.specs.declared.room_fault.Header.{Header}
use Rattle.image_check.specs.declared.room_fault.RoomFault.{RoomFault}
use Rattle.image_check.specs.declared.room_fault.RoomFault.TheVariants.{BadHeader, BadChain, BadEnds, BadFreeList, BadCount}
use Rattle.image_check.specs.Meeting.{latest, is_new, met_from}
use Rattle.seq_object.specs.declared.sizes.Sizes.{Sizes}

-- the header of a room
abbrev pub header_of : RoomWords → Header
header_of r = record { free = r 0 0; fresh = r 0 1; count = r 0 2 }

-- whether the numbers of a header are in range, where nodes begin at this line
abbrev pub is_header : ℕ → Sizes → Header → Bool
is_header first z h = nat_le first h.fresh && nat_le h.fresh z.lines && ((h.free == 0) || is_node first h.fresh h.free) && nat_le h.count (h.fresh - first)

-- the lines met from the first free line on, behind those met before
abbrev pub met_free : ℕ → Sizes → RoomWords → List ℕ → Option (List ℕ)
met_free first z r met = met_from (λ x. r x 0) (is_new first (r 0 1)) met z.lines (r 0 0)

-- the fault behind the walk over the free lines, where so many lines are in chains
abbrev pub fault_of_free : ℕ → RoomWords → ℕ → Option (List ℕ) → Option RoomFault
fault_of_free first r held None = Some BadFreeList
fault_of_free first r held (Some met) = if (r 0 2 == held) && (length met + first == r 0 1) then None else Some BadCount

-- the lines met on the queue's chain
abbrev pub met_queue : Sizes → RoomWords → Option (List ℕ)
met_queue z r = met_from (λ x. r x 1) (is_new 2 (r 0 1)) [] z.lines (r 1 0)

-- the fault behind the walk over the queue's chain
abbrev pub fault_of_queue : Sizes → RoomWords → Option (List ℕ) → Option RoomFault
fault_of_queue z r None = Some BadChain
fault_of_queue z r (Some met) = if r 1 1 == latest met then fault_of_free 2 r (length met) (met_free 2 z r met) else Some BadEnds

-- the first fault of the queue room
abbrev pub queue_fault : Sizes → RoomWords → Option RoomFault
queue_fault z r = if is_header 2 z (header_of r) then fault_of_queue z r (met_queue z r) else Some BadHeader
