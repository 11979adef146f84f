-- Cells with a plan behind enter, a closing and a restore: of those that do not run no store is left.
use Rattle.std.proofs.Common.{◌≡◌, ℕ, ◌<◌, List, [], ◌∷◌, length, refl, arith, ap, sym, ◌∙◌, subst, length-set}
use Rattle.std.proofs.Math.ListN.{length-map}
use Rattle.line_memory.specs.Line.{LineState, BankState, line_at, written_back, fenced, bank_load}
use Rattle.room_model.specs.declared.write.PlannedStore.{PlannedStore}
use Rattle.room_model.specs.Banks.{memory_words}
use Rattle.room_model.specs.Chains.{RoomWords, HasSameRecords, HasSameRoom}
use Rattle.room_model.specs.Writes.{stored_in}
use Rattle.incll_var.specs.declared.state.CellState.{CellState}
use Rattle.incll_var.specs.declared.state.CellState.TheVariants.{Torn, Running, Closing, Saved}
use Rattle.incll_var.specs.Cells.{CellBankState, IsCellBank, IsRunning, IsClosing, IsTorn, MayEnter, MayRestore, WritesOneBack, epoch_of, with_state, restored_on, after_next}
use Rattle.incll_var.specs.declared.restore.RestoreEvent.{RestoreEvent}
use Rattle.incll_var.specs.declared.restore.RestoreEvent.TheVariants.{Restores, Asks, Fences}
use Rattle.incll_var.specs.Restore.{lines_after}
use Rattle.incll_var.specs.Plans.{PlanState, IsPlanned, HasPlacesFor}
use Rattle.incll_var.proofs.MoreRoom.{no_plan}
use Rattle.planned_cells.specs.Planned.{ArePlannedCells, IsAtRest, planned_words, words_in, memory_words_in, saved_cells}
use Rattle.planned_cells.proofs.Loads.{loads-written_back, line_held, same_words}

-- where cells do not run no store is left
pub none_left : (state : CellState) (stores : List PlannedStore) → (IsRunning state → ⊥) → (0 < length stores → IsRunning state) → stores ≡ []
none_left state [] still running = refl
none_left state (s ∷ ss) still running = absurd (still (running (omega arith)))

-- cells that are being closed do not run
pub closing_still : (state : CellState) → IsClosing state → IsRunning state → ⊥
closing_still (Torn e) closing running = running
closing_still (Running e) closing running = closing
closing_still (Closing e) closing running = running
closing_still (Saved e) closing running = running

-- cells whose restore may go on do not run
pub restore_still : (state : CellState) → MayRestore state → IsRunning state → ⊥
restore_still (Torn e) may running = running
restore_still (Running e) may running = may
restore_still (Closing e) may running = running
restore_still (Saved e) may running = running

-- cells of which no store is left
pub at_rest : (cells : CellBankState) (plan : PlanState) → IsCellBank cells → plan.stores ≡ [] → ArePlannedCells cells plan
at_rest cells plan whole none = record {
  cells_are = whole;
  planned = subst (IsPlanned (epoch_of cells.state) cells.bank.lines) (sym none) (no_plan (epoch_of cells.state) cells.bank.lines).0;
  has_places = subst (HasPlacesFor cells.bank.lines) (sym none) (no_plan (epoch_of cells.state) cells.bank.lines).1;
  running = λ left. let count = ap (λ (ss : List PlannedStore). length ss) none in absurd (omega (arith, left, count));
}

-- what may be stored may still be stored in an epoch that is entered
enter_planned : (state : CellState) (epoch : ℕ) (lines : List LineState) (stores : List PlannedStore) → MayEnter state epoch → (0 < length stores → IsRunning state) → IsPlanned (epoch_of state) lines stores → IsPlanned epoch lines stores
enter_planned (Torn e) epoch lines stores may running planned = absurd may
enter_planned (Running e) epoch lines stores may running planned = subst (λ (k : ℕ). IsPlanned k lines stores) may planned
enter_planned (Closing e) epoch lines stores may running planned = absurd may
enter_planned (Saved e) epoch lines stores may running planned = subst (IsPlanned epoch lines) (sym (none_left (Saved e) stores (λ is. is) running)) (no_plan epoch lines).0

-- cells that are entered
pub entered : (cells new : CellBankState) (plan : PlanState) (epoch : ℕ) → ArePlannedCells cells plan → MayEnter cells.state epoch → new ≡ with_state cells (Running epoch) → IsCellBank new → ArePlannedCells new plan
entered cells new plan epoch was may is whole = subst (λ (k : CellBankState). ArePlannedCells k plan) (sym is) (record {
  cells_are = subst IsCellBank is whole;
  planned = enter_planned cells.state epoch cells.bank.lines plan.stores may was.running was.planned;
  has_places = was.has_places;
  running = λ left. tt;
})

-- of cells that are being closed no store is left
pub closing_none : (cells : CellBankState) (plan : PlanState) → ArePlannedCells cells plan → IsClosing cells.state → plan.stores ≡ []
closing_none cells plan was closing = none_left cells.state plan.stores (closing_still cells.state closing) was.running

-- nor of cells whose restore may go on
pub restore_none : (cells : CellBankState) (plan : PlanState) → ArePlannedCells cells plan → MayRestore cells.state → plan.stores ≡ []
restore_none cells plan was may = none_left cells.state plan.stores (restore_still cells.state may) was.running

-- cells that are being closed mean their loads, behind the stores that are left
closing_words : (state : CellState) (bank : BankState) (stores : List PlannedStore) → IsClosing state → words_in state bank stores ≡ stored_in (bank_load bank) stores
closing_words (Torn e) bank stores closing = absurd closing
closing_words (Running e) bank stores closing = absurd closing
closing_words (Closing e) bank stores closing = refl
closing_words (Saved e) bank stores closing = absurd closing

-- a write-back of a closing changes no word
pub written_words : (cells new : CellBankState) (plan : PlanState) → IsClosing cells.state → new ≡ record cells { bank = new.bank } → WritesOneBack cells.bank new.bank → HasSameRecords (planned_words new plan) (planned_words cells plan)
written_words cells new plan closing is one = same_words (planned_words cells plan) (planned_words new plan) (
    ap (λ (k : CellBankState). words_in k.state new.bank plan.stores) is
    ∙ closing_words cells.state new.bank plan.stores closing
    ∙ ap (λ (b : BankState). stored_in (bank_load b) plan.stores) one.is
    ∙ ap (λ (r : RoomWords). stored_in r plan.stores) (loads-written_back cells.bank one.line one.within)
    ∙ sym (closing_words cells.state cells.bank plan.stores closing))

-- and leaves as many lines
pub written_lines : (cells new : CellBankState) → WritesOneBack cells.bank new.bank → length new.bank.lines ≡ length cells.bank.lines
written_lines cells new one = ap (λ (b : BankState). length b.lines) one.is ∙ length-set cells.bank.lines one.line _

-- nor what memory holds
pub written_held : (cells new : CellBankState) → new ≡ record cells { bank = new.bank } → WritesOneBack cells.bank new.bank → memory_words_in new ≡ memory_words_in cells
written_held cells new is one =
    ap (λ (k : CellBankState). memory_words (epoch_of k.state) new.bank) is
    ∙ ap (memory_words (epoch_of cells.state)) one.is
    ∙ line_held (epoch_of cells.state) cells.bank one.line (written_back (line_at cells.bank.lines one.line)) one.within refl

-- the fence of a closing changes no word
pub fenced_words : (cells new : CellBankState) (plan : PlanState) → IsClosing cells.state → plan.stores ≡ [] → new ≡ saved_cells cells → HasSameRoom (bank_load new.bank) (bank_load cells.bank) → HasSameRecords (planned_words new plan) (planned_words cells plan)
fenced_words cells new plan closing none is same = λ line w lt.
    ap (λ (k : CellBankState). words_in k.state new.bank plan.stores line w) is
    ∙ ap (λ (ss : List PlannedStore). stored_in (bank_load new.bank) ss line w) none
    ∙ same line w (omega (arith, lt))
    ∙ sym (ap (λ (ss : List PlannedStore). stored_in (bank_load cells.bank) ss line w) none)
    ∙ sym (ap (λ (r : RoomWords). r line w) (closing_words cells.state cells.bank plan.stores closing))

-- and leaves as many lines
pub fenced_lines : (cells new : CellBankState) → new ≡ saved_cells cells → length new.bank.lines ≡ length cells.bank.lines
fenced_lines cells new is = ap (λ (b : CellBankState). length b.bank.lines) is ∙ length-map cells.bank.lines fenced

-- an event of a restore leaves as many lines
lines_after-length : (event : RestoreEvent) (lines : List LineState) → length (lines_after event lines) ≡ length lines
lines_after-length (Restores i w) lines = length-set lines i _
lines_after-length (Asks i) lines = length-set lines i _
lines_after-length Fences lines = length-map lines fenced

-- as many lines behind the next event of a restore
restored_on-lines : (state : CellState) (bank : BankState) (todo : List RestoreEvent) → length (restored_on state bank todo).bank.lines ≡ length bank.lines
restored_on-lines state bank [] = refl
restored_on-lines state bank (event ∷ events) = lines_after-length event bank.lines

pub restored_lines : (cells new : CellBankState) → new ≡ after_next cells → length new.bank.lines ≡ length cells.bank.lines
restored_lines cells new is = ap (λ (b : CellBankState). length b.bank.lines) is ∙ restored_on-lines cells.state cells.bank cells.todo

-- cells at rest mean their loads
pub rest_words : (cells : CellBankState) (plan : PlanState) → IsAtRest cells plan → planned_words cells plan ≡ bank_load cells.bank
rest_words cells plan rest = ap (words_in cells.state cells.bank) rest.left ∙ whole_words cells.state cells.bank rest.whole
  where
    whole_words : (state : CellState) (bank : BankState) → (IsTorn state → ⊥) → words_in state bank [] ≡ bank_load bank
    whole_words (Torn e) bank whole = absurd (whole tt)
    whole_words (Running e) bank whole = refl
    whole_words (Closing e) bank whole = refl
    whole_words (Saved e) bank whole = refl

-- running cells of which no store is left are at rest
pub running_rests : (cells : CellBankState) (plan : PlanState) → IsRunning cells.state → plan.stores ≡ [] → IsAtRest cells plan
running_rests cells plan running none = record { left = none; whole = not_torn cells.state running }
  where
    not_torn : (state : CellState) → IsRunning state → IsTorn state → ⊥
    not_torn (Torn e) running torn = running
    not_torn (Running e) running torn = torn
    not_torn (Closing e) running torn = torn
    not_torn (Saved e) running torn = torn
