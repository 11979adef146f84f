-- A map room stands for the pairs of a shard. Line 0 is the header (free, fresh, count): the first free line, the first line that was
-- never given out, and the number of pairs. Then come the heads of eight buckets, and then the nodes (key, value, next), each in the
-- chain of its key's bucket. A free line's record word 0 names the next free line.
use Rattle.std.specs.Prelude.{◌≡◌, ℕ, ◌+◌, ◌/◌, ◌%◌, ◌<◌, ◌≤◌, ◌==◌, Option, Some, None, List, [], ◌∷◌, length, if◌then◌else◌, ◌-◌}
use Rattle.std.specs.FinMap.{get}
use Rattle.seq_object.specs.Sizes.{map_capacity}
use Rattle.seq_object.specs.Object.{Pairs, shard_of}
use Rattle.seq_object.specs.History.{total}
use Rattle.room_model.specs.declared.layout.Heads.{Heads}
use Rattle.room_model.specs.declared.layout.Heads.TheVariants.{OneALine, ThreeALine}
use Rattle.room_model.specs.Chains.{RoomWords, IsChain, times, is_node}
use Rattle.seq_object.specs.declared.sizes.Sizes.{Sizes}

-- where rooms have things, by the version of the image: a map room's first node line, and the line and word of each bucket's head
pub record Layout : Type 0 where
  pub first : ℕ
  pub head_line : ℕ → ℕ
  pub head_word : ℕ → ℕ

-- the heads lie behind the header and before the first node line, each at a record word of its own
pub record IsLayout (layout : Layout) : Type 0 where
  pub low : (b : ℕ) → b < 8 → 0 < layout.head_line b
  pub high : (b : ℕ) → b < 8 → layout.head_line b < layout.first
  pub word : (b : ℕ) → b < 8 → layout.head_word b < 3
  pub apart : (b c : ℕ) → b < 8 → c < 8 → layout.head_line b ≡ layout.head_line c
      → layout.head_word b ≡ layout.head_word c → b ≡ c

-- each head is word 0 of a line of its own
abbrev pub one_head_a_line : Layout
one_head_a_line = record { first = 9; head_line = λ b. b + 1; head_word = λ b. 0 }

-- three heads lie in a line
abbrev pub three_heads_a_line : Layout
three_heads_a_line = record { first = 4; head_line = λ b. b / 3 + 1; head_word = λ b. b % 3 }

-- the layout with the heads there
abbrev pub layout_of : Heads → Layout
layout_of OneALine = one_head_a_line
layout_of ThreeALine = three_heads_a_line

-- the layout of the memory on which lives run
abbrev pub live_layout : Layout
live_layout = one_head_a_line

-- a layout leaves room for as many keys as a shard can hold
abbrev pub HasCapacity : Layout → Sizes → Type 0
HasCapacity layout z = map_capacity z ≡ z.lines - layout.first

-- the line of the first node of a bucket, 0 where there is none
abbrev pub head : Layout → RoomWords → ℕ → ℕ
head layout r b = r (layout.head_line b) (layout.head_word b)

-- the bucket of a key within its shard
abbrev pub bucket_of : Sizes → ℕ → ℕ
bucket_of z key = key / z.shards % 8

-- the value of the first of these lines that has the key
abbrev pub found : RoomWords → ℕ → List ℕ → Option ℕ
found r key [] = None
found r key (x ∷ xs) = if r x 0 == key then Some (r x 1) else found r key xs

-- each line's key has this shard and this bucket, and no key stands twice
abbrev pub AreKeys : Sizes → ℕ → ℕ → RoomWords → List ℕ → Type 0
AreKeys z shard bucket r [] = Unit {0}
AreKeys z shard bucket r (x ∷ xs) = (shard_of z (r x 0) ≡ shard) × (bucket_of z (r x 0) ≡ bucket) × (found r (r x 0) xs ≡ None) × AreKeys z shard bucket r xs

-- the room stands for these pairs of the shard
pub record IsMapRoom (layout : Layout) (z : Sizes) (shard : ℕ) (r : RoomWords) (pairs : Pairs) : Type 0 where
  pub chain : ℕ → List ℕ
  pub free : List ℕ
  pub low : layout.first ≤ r 0 1
  pub high : r 0 1 ≤ z.lines
  pub chained : (b : ℕ) → b < 8 → IsChain (λ x. r x 2) (head layout r b) (chain b)
  pub freed : IsChain (λ x. r x 0) (r 0 0) free
  -- each line from the first node line to the one before fresh stands once in one of these lists, and no other line does
  pub each : (x : ℕ) → total (λ b. times x (chain b)) 8 + times x free ≡ (if is_node layout.first (r 0 1) x then 1 else 0)
  pub keys : (b : ℕ) → b < 8 → AreKeys z shard b r (chain b)
  pub count : r 0 2 ≡ total (λ b. length (chain b)) 8
  pub keyed : (key : ℕ) → get pairs key ≡ (if shard_of z key == shard then found r key (chain (bucket_of z key)) else None)
