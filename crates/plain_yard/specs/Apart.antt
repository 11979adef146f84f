-- The numbers of the rooms whose lock is dead.
use Rattle.std.specs.Prelude.{ℕ, suc, ◌==◌, List, [], ◌∷◌, if◌then◌else◌}
use Rattle.yard_model.specs.World.{dead}

-- among these locks, the first of which is that of this room
abbrev pub dead_from : ℕ → List ℕ → List ℕ
dead_from r [] = []
dead_from r (l ∷ ls) = if l == dead then r ∷ dead_from (suc r) ls else dead_from (suc r) ls
