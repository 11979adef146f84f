-- The pairs of a map room, as they are listed.
use Rattle.std.specs.Prelude.{ℕ, ◌<◌, List, [], ◌∷◌}
use Rattle.std.specs.FinMap.{insert}
use Rattle.seq_object.specs.Object.{Pairs}
use Rattle.room_model.specs.Chains.{RoomWords}
use Rattle.room_model.specs.MapRoom.{Layout, head}
use Rattle.room_model.specs.Walks.{IsWalk}

-- pairs with these put in, one after the other
abbrev pub with_all : Pairs → List (ℕ × ℕ) → Pairs
with_all pairs [] = pairs
with_all pairs (e ∷ es) = with_all (insert pairs e.0 e.1) es

-- from the head of each bucket the walk stays in the room, and ends
abbrev pub AreWalks : Layout → ℕ → RoomWords → Type 0
AreWalks layout lines r = (b : ℕ) → b < 8 → IsWalk r lines lines (head layout r b)
