-- What planning writes makes of cells and their epoch.
use Rattle.std.proofs.Common.{◌≡◌, ℕ, zero, suc, ◌<◌, List, [], ◌∷◌, ◌++◌, length, slice_index, get_or, take, refl, ap, sym, ◌∙◌, subst, arith}
use Rattle.line_memory.specs.Line.{bank_load}
use Rattle.room_model.specs.declared.write.PlannedStore.{PlannedStore}
use Rattle.room_model.specs.declared.write.Write.{Write}
use Rattle.room_model.specs.Chains.{RoomWords}
use Rattle.room_model.specs.EpochLine.{memory_epoch}
use Rattle.room_model.specs.Writes.{written, stored_in, stores_behind, write_stores, AreWithin}
use Rattle.room_laws.specs.Stores.{StoresLaw}
use Rattle.incll_var.specs.declared.state.CellState.{CellState}
use Rattle.incll_var.specs.Cells.{CellBankState, epoch_of}
use Rattle.planned_cells.specs.Planned.{PlannedState, planned_words, memory_words_in, words_in}
use Rattle.planned_cells.proofs.Loads.{loads-same, more_held}
use Rattle.epoch_cells.specs.declared.stage.Stage.{Stage}
use Rattle.epoch_cells.specs.declared.stage.Stage.TheVariants.{Open}
use Rattle.epoch_cells.specs.Cells.{EpochCellsState, state_of, AreEpochCells, IsAtRest, IsAt, records_in, records, saved_records, cell_count, column, after_writes}
use Rattle.epoch_cells.specs.Events.{HasPlan}
use Rattle.epoch_cells.proofs.Records.{behind, same_records, in_column}
use Rattle.epoch_cells.proofs.Going.{at_stage}

-- a write of a list goes to a record word of a line
pub write_within : (n : ℕ) (xs : List Write) (k : ℕ) (none : Write) → AreWithin n xs → k < length xs → ((get_or xs k none).line < n) × ((get_or xs k none).word < 3)
write_within n [] k none within lt = absurd (omega (arith, lt))
write_within n (x ∷ xs) zero none within lt = (within.0, within.1)
write_within n (x ∷ xs) (suc k) none within lt = write_within n xs k none within.2 (omega (arith, lt))

-- the stores of one write more
pub one_more : (epoch : ℕ) (r : RoomWords) (before : List PlannedStore) (xs : List Write) (k : ℕ) (none : Write) → k < length xs
    → stores_behind epoch r before (take (suc k) xs) ≡ stores_behind epoch r before (take k xs) ++ write_stores epoch r (stores_behind epoch r before (take k xs)) (get_or xs k none)
one_more epoch r before [] k none lt = absurd (omega (arith, lt))
one_more epoch r before (x ∷ xs) zero none lt = refl
one_more epoch r before (x ∷ xs) (suc k) none lt = one_more epoch r (before ++ write_stores epoch r before x) xs k none (omega (arith, lt))

-- the parts that hold the cells
abbrev pub cells_of : EpochCellsState → PlannedState
cells_of s = record { cells = s.cells; plan = s.plan }

-- cells that run mean their loads behind the stores that are left
open_words : (s : EpochCellsState) → AreEpochCells s → s.stage ≡ Open → (cells : CellBankState) → cells.state ≡ s.cells.state → (stores : List PlannedStore) → words_in cells.state cells.bank stores ≡ stored_in (bank_load cells.bank) stores
open_words s is stage cells same stores = ap (λ (state : CellState). words_in state cells.bank stores) (same ∙ (at_stage s Open is stage).0)

-- at rest the records are the loads
rest_words : (s : EpochCellsState) → AreEpochCells s → IsAtRest s → planned_words s.cells s.plan ≡ bank_load s.cells.bank
rest_words s is rest = open_words s is rest.stage s.cells refl s.plan.stores ∙ ap (λ (ss : List PlannedStore). stored_in (bank_load s.cells.bank) ss) rest.none

-- a word of a record, at rest
pub rest_word : (s : EpochCellsState) (cell word : ℕ) → AreEpochCells s → IsAtRest s → cell < cell_count s → word < 3 → bank_load s.cells.bank cell word ≡ slice_index (column word (records s)) cell
rest_word s cell word is rest within low =
    let r = planned_words s.cells s.plan in
    sym (in_column r (cell_count s) cell word within low ∙ ap (λ (q : RoomWords). q cell word) (rest_words s is rest))

-- behind planning, whatever is planned
pub record IsPlannedOn (s : EpochCellsState) (p : PlannedState) (stores : List PlannedStore) : Type 0 where
  pub records_are : records (state_of p s.epoch s.stage) ≡ records_in (stored_in (bank_load s.cells.bank) stores) (cell_count s)
  pub saved_are : saved_records (state_of p s.epoch s.stage) ≡ saved_records s
  pub whole : AreEpochCells (state_of p s.epoch s.stage)

pub planned : (s : EpochCellsState) (p : PlannedState) (stores : List PlannedStore) → AreEpochCells s → s.stage ≡ Open → HasPlan (cells_of s) p stores → IsPlannedOn s p stores
planned s p stores is stage plan =
    let state : p.cells.state ≡ s.cells.state = ap (λ (k : CellBankState). k.state) plan.is in
    let words : planned_words p.cells p.plan ≡ stored_in (bank_load s.cells.bank) stores =
    open_words s is stage p.cells state p.plan.stores ∙ ap (λ (ss : List PlannedStore). stored_in (bank_load p.cells.bank) ss) plan.planned ∙ ap (λ (r : RoomWords). stored_in r stores) (loads-same s.cells.bank p.cells.bank plan.same) in
    let held : memory_words_in p.cells ≡ memory_words_in s.cells =
    ap (λ (k : CellState). memory_words_in (record p.cells { state = k })) state ∙ more_held (epoch_of s.cells.state) s.cells.bank p.cells.bank plan.same in
    let at = at_stage s Open is stage in
    record {
      records_are = ap (λ (r : RoomWords). records_in r (length p.cells.bank.lines)) words ∙ ap (records_in (stored_in (bank_load s.cells.bank) stores)) plan.same.count;
      saved_are = ap (λ (r : RoomWords). records_in r (length p.cells.bank.lines)) held ∙ ap (records_in (memory_words_in s.cells)) plan.same.count;
      whole = record {
        cells = plan.whole;
        epoch = is.epoch;
        at = subst (λ (g : Stage). IsAt g (memory_epoch s.epoch) p.cells s.epoch) (sym stage) (state ∙ at.0, at.1);
      };
    }

-- at rest the records are those of the loads
rest_records : (s : EpochCellsState) → AreEpochCells s → IsAtRest s → records_in (bank_load s.cells.bank) (cell_count s) ≡ records s
rest_records s is rest = ap (λ (r : RoomWords). records_in r (cell_count s)) (sym (rest_words s is rest))

-- the records behind writes that were begun
pub begun : StoresLaw → (s : EpochCellsState) (p : PlannedState) (xs : List Write) → AreEpochCells s → IsAtRest s → AreWithin (cell_count s) xs
    → IsPlannedOn s p (stores_behind (epoch_of s.cells.state) (bank_load s.cells.bank) [] xs) → records (state_of p s.epoch s.stage) ≡ after_writes (records s) xs
begun law s p xs is rest within made =
    let r = bank_load s.cells.bank in
    let e = epoch_of s.cells.state in
    made.records_are
    ∙ same_records (stored_in r (stores_behind e r [] xs)) (written r xs) (cell_count s) (law e r [] xs)
    ∙ behind r (cell_count s) xs within
    ∙ ap (λ (rs : List (List ℕ)). after_writes rs xs) (rest_records s is rest)
