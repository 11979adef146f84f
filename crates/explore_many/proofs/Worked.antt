-- Lines in work, without their room.
use Rattle.std.proofs.Common.{◌≡◌, ◌∙◌, ℕ, zero, suc, ◌+◌, List, [], ◌∷◌, length, map, slice_set, refl, ap}
use Rattle.line_memory.specs.Line.{LineState, line_at, with_spare, stored, written_back, fenced, quiet_line}
use Rattle.crash_explorer.specs.Cut.{bare}
use Rattle.explore_many.specs.Store.{restored_to, cost_to, ended, records_to}

-- there are as many lines
pub bare_length : (ls : List LineState) → length (bare ls) ≡ length ls
bare_length [] = refl
bare_length (l ∷ ls) = ap suc (bare_length ls)

-- each is the same without its room
pub bare_line : (ls : List LineState) (i : ℕ) → line_at (bare ls) i ≡ with_spare (line_at ls i) 0
bare_line [] i = refl
bare_line (l ∷ ls) zero = refl
bare_line (l ∷ ls) (suc i) = bare_line ls i

-- a store to a line for which room was made
pub store_worked : (ls : List LineState) (i word value spare : ℕ)
    → bare (slice_set (slice_set ls i (with_spare (line_at ls i) spare)) i (stored (line_at (slice_set ls i (with_spare (line_at ls i) spare)) i) word value)) ≡ slice_set (bare ls) i (stored (line_at (bare ls) i) word value)
store_worked [] i word value spare = refl
store_worked (l ∷ ls) zero word value spare = refl
store_worked (l ∷ ls) (suc i) word value spare = ap (λ (xs : List LineState). with_spare l 0 ∷ xs) (store_worked ls i word value spare)

-- a write-back of a line
pub write_back_worked : (ls : List LineState) (i : ℕ) → bare (slice_set ls i (written_back (line_at ls i))) ≡ slice_set (bare ls) i (written_back (line_at (bare ls) i))
write_back_worked [] i = refl
write_back_worked (l ∷ ls) zero = refl
write_back_worked (l ∷ ls) (suc i) = ap (λ (xs : List LineState). with_spare l 0 ∷ xs) (write_back_worked ls i)

-- a fence
pub fence_worked : (ls : List LineState) → bare (map fenced ls) ≡ bare (map fenced (bare ls))
fence_worked [] = refl
fence_worked (l ∷ ls) = ap (λ (xs : List LineState). with_spare (fenced l) 0 ∷ xs) (fence_worked ls)

-- lines with nothing pending
pub bare_quiet : (ws : List (List ℕ)) → bare (map quiet_line ws) ≡ map quiet_line ws
bare_quiet [] = refl
bare_quiet (w ∷ ws) = ap (λ (xs : List LineState). quiet_line w ∷ xs) (bare_quiet ws)

-- what a recovery of the first so many cells leaves, from lines with nothing pending: its events, its lines, and its records
module _ (epoch cells : ℕ) (ws : List (List ℕ)) (first second third : List LineState) (begins : first ≡ map quiet_line ws) (restores : bare second ≡ restored_to epoch (bare first) cells) (ends : bare third ≡ ended epoch (bare second)) where
  begun : bare first ≡ map quiet_line ws
  begun = ap bare begins ∙ bare_quiet ws

  pub events_over : (n : ℕ) → n ≡ cost_to epoch (bare first) cells → n + 4 ≡ cost_to epoch (map quiet_line ws) cells + 4
  events_over n is = ap (λ (m : ℕ). m + 4) (is ∙ ap (λ (ls : List LineState). cost_to epoch ls cells) begun)

  pub lines_over : bare third ≡ ended epoch (restored_to epoch (map quiet_line ws) cells)
  lines_over = ends ∙ ap (ended epoch) (restores ∙ ap (λ (ls : List LineState). restored_to epoch ls cells) begun)

  pub records_over : (state : List ℕ) → state ≡ records_to (bare third) cells → state ≡ records_to (ended epoch (restored_to epoch (map quiet_line ws) cells)) cells
  records_over state is = is ∙ ap (λ (ls : List LineState). records_to ls cells) lines_over
