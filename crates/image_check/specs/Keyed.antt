-- The pairs of the lines met on the chains of a map room, beside those of other shards.
use Rattle.std.specs.Prelude.{◌≡◌, ℕ, ◌==◌, Bool, Option, Some, None, List, if◌then◌else◌}
use Rattle.std.specs.FinMap.{get, from_entries}
use Rattle.seq_object.specs.Object.{Pairs, shard_of}
use Rattle.room_model.specs.Chains.{RoomWords}
use Rattle.room_model.specs.MapRoom.{Layout, found}
use Rattle.room_model.specs.Walks.{map_of}
use Rattle.image_check.specs.declared.walking.Met.{Met}
use Rattle.image_check.specs.Marks.{HasMarksOf}
use Rattle.seq_object.specs.declared.sizes.Sizes.{Sizes}

-- the pairs that these entries of a tree are
abbrev pub pairs_in : List (ℕ × ℕ) → Pairs
pairs_in entries = from_entries entries

-- at the keys of the shard the pairs have what the lines met have, and at the others what they had before
abbrev pub IsKeyed : RoomWords → Sizes → ℕ → Pairs → Pairs → List ℕ → Type 0
IsKeyed r z shard others pairs met = (key : ℕ) → get pairs key ≡ (if shard_of z key == shard then found r key met else get others key)

-- the marks and the pairs are those of the lines met
pub record IsNoted (r : RoomWords) (z : Sizes) (shard : ℕ) (others : Pairs) (marks : List Bool) (now : Met) (pairs : Pairs) (met : List ℕ) : Type 0 where
  pub marked : HasMarksOf marks now met
  pub keyed : IsKeyed r z shard others pairs met

-- what was walked and noted is what the definition met
abbrev pub HasNoted : RoomWords → Sizes → ℕ → Pairs → Option Met → List Bool → Pairs → Option (List ℕ) → Type 0
HasNoted r z shard others None marks pairs None = Unit {0}
HasNoted r z shard others None marks pairs (Some met) = ⊥
HasNoted r z shard others (Some now) marks pairs None = ⊥
HasNoted r z shard others (Some now) marks pairs (Some met) = IsNoted r z shard others marks now pairs met

-- at the keys of the shard the pairs have what its map room has, and at the others what they had before
abbrev pub HasShardPairs : Layout → Sizes → ℕ → RoomWords → Pairs → Pairs → Type 0
HasShardPairs layout z shard r others pairs = (key : ℕ) → get pairs key ≡ (if shard_of z key == shard then get (map_of layout z r) key else get others key)
