-- Counts as a list of entries.
use Rattle.std.specs.Prelude.{ℕ, suc, List, [], ◌∷◌}
use Rattle.store_order.specs.declared.choice.Kept.{Kept}

-- an entry for each count, where the first is that of line number i
abbrev pub listed : ℕ → List ℕ → List Kept
listed i [] = []
listed i (k ∷ ks) = record { line = i; count = k } ∷ listed (suc i) ks
