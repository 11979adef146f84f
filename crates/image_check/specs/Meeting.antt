-- A walk over the lines of a room: from a line to the one that it names, until 0. What was met is a list, the latest first.
use Rattle.std.specs.Prelude.{ℕ, zero, suc, ◌==◌, ◌&&◌, Bool, Option, Some, None, List, [], ◌∷◌, if◌then◌else◌}
use Rattle.room_model.specs.Chains.{times, is_node}

-- the line that was met last, or 0
abbrev pub latest : List ℕ → ℕ
latest [] = 0
latest (x ∷ xs) = x

-- a line that was given out, and that was not met before
abbrev pub is_new : ℕ → ℕ → List ℕ → ℕ → Bool
is_new first fresh met x = is_node first fresh x && (times x met == 0)

-- from start, over at most so many lines, each of which may be met behind those before it: all that was met; nothing where a line may
-- not be met, or the walk does not end
abbrev pub met_from : (ℕ → ℕ) → (List ℕ → ℕ → Bool) → List ℕ → ℕ → ℕ → Option (List ℕ)
met_from next may met zero start = if start == 0 then Some met else None
met_from next may met (suc n) start = if start == 0 then Some met else if may met start then met_from next may (start ∷ met) n (next start) else None
