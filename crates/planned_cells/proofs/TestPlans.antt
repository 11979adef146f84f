-- What the tests rest on: behind more room on the lines a plan is still one of these cells.
use Rattle.std.proofs.Common.{◌≡◌, ℕ, List, ap, sym, subst}
use Rattle.line_memory.specs.Line.{BankState}
use Rattle.room_model.specs.declared.write.PlannedStore.{PlannedStore}
use Rattle.incll_var.specs.Cells.{HasSameCells, epoch_of}
use Rattle.incll_var.specs.Plans.{IsPlanned}
use Rattle.incll_var.proofs.MoreRoom.{same_planned}
use Rattle.planned_cells.specs.Planned.{PlannedState, with_cells, with_bank}

-- stores that are planned on cells are planned on them behind more room
pub still_planned : (old new : PlannedState) (bank : BankState) (stores : List PlannedStore) → new ≡ with_cells old (with_bank old.cells bank) → HasSameCells old.cells.bank new.cells.bank
    → IsPlanned (epoch_of old.cells.state) old.cells.bank.lines stores → IsPlanned (epoch_of new.cells.state) new.cells.bank.lines stores
still_planned old new bank stores is same planned =
    subst (λ (e : ℕ). IsPlanned e new.cells.bank.lines stores) (ap (λ (p : PlannedState). epoch_of p.cells.state) (sym is)) (same_planned (epoch_of old.cells.state) old.cells.bank new.cells.bank stores same planned)
