-- The first fault of a map room, in the order of the checks: its header, its chains, its free lines, its counts.
use Rattle.std.specs.Prelude.{ℕ, zero, suc, ◌==◌, ◌&&◌, Bool, Option, Some, None, is_none, List, [], length, if◌then◌else◌}
use Rattle.seq_object.specs.Object.{shard_of}
use Rattle.room_model.specs.Chains.{RoomWords}
use Rattle.room_model.specs.MapRoom.{Layout, head, bucket_of, found}
use Rattle.image_check.specs.declared.room_fault.RoomFault.{RoomFault}
use Rattle.image_check.specs.declared.room_fault.RoomFault.TheVariants.{BadHeader, BadChain}
use Rattle.image_check.specs.Meeting.{is_new, met_from}
use Rattle.image_check.specs.QueueFaults.{header_of, is_header, met_free, fault_of_free}
use Rattle.seq_object.specs.declared.sizes.Sizes.{Sizes}

-- whether a key belongs to this bucket of this shard
abbrev pub is_placed : Sizes → ℕ → ℕ → ℕ → Bool
is_placed z shard bucket key = (shard_of z key == shard) && (bucket_of z key == bucket)

-- a key of this bucket of this shard that no line met before has
abbrev pub is_new_key : RoomWords → Sizes → ℕ → ℕ → List ℕ → ℕ → Bool
is_new_key r z shard bucket met key = is_placed z shard bucket key && is_none (found r key met)

-- a line that may be met on the chain of a bucket
abbrev pub may_join : ℕ → RoomWords → Sizes → ℕ → ℕ → List ℕ → ℕ → Bool
may_join first r z shard bucket met x = is_new first (r 0 1) met x && is_new_key r z shard bucket met (r x 0)

-- the lines met on the chain of a bucket, behind those met before
abbrev pub met_bucket : Layout → Sizes → ℕ → RoomWords → ℕ → Option (List ℕ) → Option (List ℕ)
met_bucket layout z shard r b None = None
met_bucket layout z shard r b (Some met) = met_from (λ x. r x 2) (may_join layout.first r z shard b) met z.lines (head layout r b)

-- the lines met on the chains of the first buckets, of this number
abbrev pub met_chains : Layout → Sizes → ℕ → RoomWords → ℕ → Option (List ℕ)
met_chains layout z shard r zero = Some []
met_chains layout z shard r (suc b) = met_bucket layout z shard r b (met_chains layout z shard r b)

-- the fault behind the walks over the chains
abbrev pub fault_of_chains : ℕ → Sizes → RoomWords → Option (List ℕ) → Option RoomFault
fault_of_chains first z r None = Some BadChain
fault_of_chains first z r (Some met) = fault_of_free first r (length met) (met_free first z r met)

-- the first fault of the map room of a shard
abbrev pub map_fault : Layout → Sizes → ℕ → RoomWords → Option RoomFault
map_fault layout z shard r = if is_header layout.first z (header_of r) then fault_of_chains layout.first z r (met_chains layout z shard r 8) else Some BadHeader
