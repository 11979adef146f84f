-- Lines without their room, as the store of the tests works on them.
use Rattle.std.proofs.Common.{◌≡◌, ℕ, zero, suc, List, [], ◌∷◌, length, map, slice_set, refl, ap}
use Rattle.line_memory.specs.Line.{LineState, line_at, with_spare, stored, quiet_line}
use Rattle.crash_explorer.specs.Cut.{bare}

-- a store to a line for which room was made
pub store_bare : (ls : List LineState) (i word value spare : ℕ)
    → bare (slice_set (slice_set ls i (with_spare (line_at ls i) spare)) i (stored (line_at (slice_set ls i (with_spare (line_at ls i) spare)) i) word value)) ≡ slice_set (bare ls) i (stored (line_at (bare ls) i) word value)
store_bare [] i word value spare = refl
store_bare (l ∷ ls) zero word value spare = refl
store_bare (l ∷ ls) (suc i) word value spare = ap (λ (xs : List LineState). with_spare l 0 ∷ xs) (store_bare ls i word value spare)

-- lines with nothing pending
pub bare_quiet : (ws : List (List ℕ)) → bare (map quiet_line ws) ≡ map quiet_line ws
bare_quiet [] = refl
bare_quiet (w ∷ ws) = ap (λ (xs : List LineState). quiet_line w ∷ xs) (bare_quiet ws)

-- as many as there are words
pub quiet_length : (ws : List (List ℕ)) → length (map quiet_line ws) ≡ length ws
quiet_length [] = refl
quiet_length (w ∷ ws) = ap suc (quiet_length ws)
