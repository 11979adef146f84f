-- The queue room stands for a list. Line 0 is the header (free, fresh, count), line 1 the ends (first, last, 0), and from line 2 on come
-- the nodes (value, next, 0), all in one chain. A free line's record word 0 names the next free line.
use Rattle.std.specs.Prelude.{◌≡◌, ℕ, ◌+◌, ◌≤◌, List, [], ◌∷◌, length, map, if◌then◌else◌}
use Rattle.room_model.specs.Chains.{RoomWords, IsChain, times, is_node}
use Rattle.seq_object.specs.declared.sizes.Sizes.{Sizes}

-- the last of these lines, and x where there is none
abbrev pub last_line : ℕ → List ℕ → ℕ
last_line x [] = x
last_line x (y ∷ ys) = last_line y ys

-- the room stands for these items, from front to back
pub record IsQueueRoom (z : Sizes) (r : RoomWords) (items : List ℕ) : Type 0 where
  pub chain : List ℕ
  pub free : List ℕ
  pub low : 2 ≤ r 0 1
  pub high : r 0 1 ≤ z.lines
  pub chained : IsChain (λ x. r x 1) (r 1 0) chain
  pub last : r 1 1 ≡ last_line 0 chain
  pub freed : IsChain (λ x. r x 0) (r 0 0) free
  -- each line from 2 to the one before fresh stands once in one of these two lists, and no other line does
  pub each : (x : ℕ) → times x chain + times x free ≡ (if is_node 2 (r 0 1) x then 1 else 0)
  pub count : r 0 2 ≡ length chain
  pub listed : items ≡ map (λ x. r x 0) chain
