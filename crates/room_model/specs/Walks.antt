-- What a room holds, as a function of its words: walks from the heads, each of at most as many steps as the room has lines.
use Rattle.std.specs.Prelude.{◌≡◌, ◌≢◌, ℕ, zero, suc, ◌<◌, ◌==◌, List, [], ◌∷◌, ◌++◌, if◌then◌else◌}
use Rattle.std.specs.FinMap.{empty, from_entries}
use Rattle.seq_object.specs.Object.{Pairs, Contents}
use Rattle.room_model.specs.Chains.{RoomWords}
use Rattle.room_model.specs.MapRoom.{Layout, head}
use Rattle.room_model.specs.Rooms.{StandsFor}
use Rattle.seq_object.specs.declared.sizes.Sizes.{Sizes}

-- the pairs of the nodes from this line on, over at most so many nodes
abbrev pub pairs_from : RoomWords → ℕ → ℕ → List (ℕ × ℕ)
pairs_from r zero start = []
pairs_from r (suc n) start = if start == 0 then [] else (r start 0, r start 1) ∷ pairs_from r n (r start 2)

-- the pairs of the first buckets, of this number
abbrev pub pairs_below : Layout → Sizes → RoomWords → ℕ → List (ℕ × ℕ)
pairs_below layout z r zero = []
pairs_below layout z r (suc b) = pairs_below layout z r b ++ pairs_from r z.lines (head layout r b)

-- the pairs of a map room
abbrev pub map_of : Layout → Sizes → RoomWords → Pairs
map_of layout z r = from_entries (pairs_below layout z r 8)

-- the values of the nodes from this line on, over at most so many nodes
abbrev pub items_from : RoomWords → ℕ → ℕ → List ℕ
items_from r zero start = []
items_from r (suc n) start = if start == 0 then [] else r start 0 ∷ items_from r n (r start 1)

-- the items of the queue room
abbrev pub items_of : Sizes → RoomWords → List ℕ
items_of z r = items_from r z.lines (r 1 0)

-- what a room holds: the queue room its items and no pair, a map room its pairs and no item
abbrev pub contents_of : Layout → Sizes → ℕ → RoomWords → Contents
contents_of layout z room r = if room == z.shards then record { pairs = empty; items = items_of z r } else record { pairs = map_of layout z r; items = [] }

-- from this line on, over at most so many nodes, each line that is met is one of these, and the way ends
abbrev pub IsWalk : RoomWords → ℕ → ℕ → ℕ → Type 0
IsWalk r lines zero start = start ≡ 0
IsWalk r lines (suc n) start = start ≢ 0 → (start < lines) × IsWalk r lines n (r start 2)

-- the room stands for what its words give
abbrev pub IsRoom : Layout → Sizes → ℕ → RoomWords → Type 0
IsRoom layout z room r = StandsFor layout z room r (contents_of layout z room r)
