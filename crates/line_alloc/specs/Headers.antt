-- The plans of the writes that take a line, give one back, and count, and where the line that is taken lies.
use Rattle.std.specs.Prelude.{◌≡◌, ℕ, ◌<◌, ◌≤◌, ◌⊎◌, List, [], ◌∷◌}
use Rattle.line_memory.specs.Line.{bank_load}
use Rattle.room_model.specs.declared.write.Write.{Write}
use Rattle.room_model.specs.Chains.{RoomWords, times}
use Rattle.room_model.specs.MapRoom.{live_layout, IsMapRoom}
use Rattle.room_model.specs.QueueRoom.{IsQueueRoom}
use Rattle.room_model.specs.Writes.{stores_behind}
use Rattle.seq_object.specs.Object.{Pairs}
use Rattle.incll_var.specs.Cells.{CellBankState, epoch_of}
use Rattle.incll_var.specs.Plans.{PlanState}
use Rattle.seq_object.specs.declared.sizes.Sizes.{Sizes}

-- the plan with the stores of these writes behind its own, in the epoch and by the loads of these cells; the room that was made stays
abbrev pub planned : CellBankState → PlanState → List Write → PlanState
planned cells p ws = record p { stores = stores_behind (epoch_of cells.state) (bank_load cells.bank) p.stores ws }

-- of two writes none or the first is planned
abbrev pub IsPartlyPlanned : CellBankState → PlanState → PlanState → List Write → Type 0
IsPartlyPlanned cells old new [] = new ≡ old
IsPartlyPlanned cells old new (x ∷ xs) = (new ≡ old) ⊎ (new ≡ planned cells old (x ∷ []))

-- where a room of so many lines is a map room, this line is one for nodes, and stands in no bucket's chain
pub record IsInNoChainOfMap (lines : ℕ) (r : RoomWords) (line : ℕ) : Type 0 where
  pub low : (z : Sizes) (shard : ℕ) → z.lines ≡ lines → (pairs : Pairs) → IsMapRoom live_layout z shard r pairs → live_layout.first ≤ line
  pub apart : (z : Sizes) (shard : ℕ) → z.lines ≡ lines → (pairs : Pairs) → (room : IsMapRoom live_layout z shard r pairs) → (b : ℕ) → b < 8 → times line (room.chain b) ≡ 0

-- where a room of so many lines is the queue room, this line is one for nodes, and does not stand in the chain
pub record IsInNoChainOfQueue (lines : ℕ) (r : RoomWords) (line : ℕ) : Type 0 where
  pub low : (z : Sizes) (items : List ℕ) → z.lines ≡ lines → IsQueueRoom z r items → 2 ≤ line
  pub apart : (z : Sizes) (items : List ℕ) → z.lines ≡ lines → (room : IsQueueRoom z r items) → times line room.chain ≡ 0
