-- What the tests rest on: that a store leaves the state of cells, and where a closing begins.
use Rattle.std.proofs.Common.{◌≡◌, ℕ, Bool, List, [], ◌∷◌, refl, ap, ◌∙◌, if◌then◌else◌}
use Rattle.std.proofs.lemmas.Bool.{ne_eqb}
use Rattle.room_model.specs.declared.write.PlannedStore.{PlannedStore}
use Rattle.incll_var.specs.declared.state.CellState.{CellState}
use Rattle.incll_var.specs.declared.state.CellState.TheVariants.{Running, Closing, Saved}
use Rattle.incll_var.specs.Cells.{CellBankState, closing_state, played}

-- a store leaves the state
pub played-state : (cells : CellBankState) (stores : List PlannedStore) → (played cells stores).state ≡ cells.state
played-state cells [] = refl
played-state cells (s ∷ ss) = refl

-- where a line was stored to, running cells are closing behind the begin of a closing
pub closing-is : (n epoch : ℕ) (state : CellState) → state ≡ Running epoch → (n ≡ 0 → ⊥) → closing_state n state ≡ Closing epoch
closing-is n epoch state is some = ap (closing_state n) is ∙ ap (λ (b : Bool). if b then Saved epoch else Closing epoch) (ne_eqb n 0 some)
