-- What one event makes of cells and their epoch, what planning makes of cells, and the words of new ones.
use Rattle.std.specs.Prelude.{◌≡◌, ℕ, ◌<◌, List, [], ◌∷◌, length, slice_index, if◌then◌else◌}
use Rattle.room_model.specs.declared.write.PlannedStore.{PlannedStore}
use Rattle.incll_var.specs.Cells.{HasSameCells}
use Rattle.planned_cells.specs.Planned.{PlannedState, ArePlannedCells, with_bank}
use Rattle.epoch_cells.specs.Cells.{EpochCellsState, AreEpochCells, records, saved_records, settled_records, is_last, events_left, record_at}

-- an event: the records meant stay, and so do those of the last checkpoint, but for the last event of a checkpoint or of a recovery,
-- behind which they are those that are meant
pub record IsEvent (old new : EpochCellsState) : Type 0 where
  pub same : records new ≡ records old
  pub saved : saved_records new ≡ (if is_last old.stage then records old else saved_records old)
  pub later : settled_records new ≡ settled_records old
  pub fewer : events_left new < events_left old
  pub whole : AreEpochCells new

-- cells in which these stores are planned, and else nothing but room has changed
pub record HasPlan (old new : PlannedState) (stores : List PlannedStore) : Type 0 where
  pub same : HasSameCells old.cells.bank new.cells.bank
  pub is : new.cells ≡ with_bank old.cells new.cells.bank
  pub planned : new.plan.stores ≡ stores
  pub whole : ArePlannedCells new.cells new.plan

-- the words of a new cell with this record
abbrev pub new_cell : List ℕ → List ℕ
new_cell words = slice_index words 0 ∷ slice_index words 1 ∷ slice_index words 2 ∷ 0 ∷ 0 ∷ 0 ∷ 0 ∷ 0 ∷ []

-- the words of a new super room
abbrev pub new_epoch : List ℕ
new_epoch = 1 ∷ 0 ∷ 0 ∷ 0 ∷ 0 ∷ 0 ∷ 0 ∷ 0 ∷ []

-- each of these is a record of three words
abbrev pub AreRecords : List (List ℕ) → Type 0
AreRecords rs = (k : ℕ) → k < length rs → length (record_at rs k) ≡ 3
