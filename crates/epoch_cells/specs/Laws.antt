-- What a power cut leaves of cells and their epoch, and what writes make of the columns of their records.
use Rattle.std.specs.Prelude.{◌≡◌, ℕ, ◌<◌, ◌⊎◌, true, List, length}
use Rattle.line_memory.specs.Line.{BankState}
use Rattle.room_model.specs.declared.write.Write.{Write}
use Rattle.room_model.specs.Writes.{AreWithin}
use Rattle.epoch_cells.specs.Cells.{EpochCellsState, AreEpochCells, CanRecover, records, saved_records, recovered_records, left_of, is_epoch_pending, cell_count, after_writes, column, column_after}

-- what was left can be recovered: to the records of the last checkpoint, or, where the next epoch is pending, to those that the cells mean
pub record SurvivesCut (s : EpochCellsState) (cells epoch : BankState) : Type 0 where
  pub lawful : CanRecover cells epoch
  pub state : (recovered_records cells epoch ≡ saved_records s) ⊎ ((is_epoch_pending s.stage ≡ true) × (recovered_records cells epoch ≡ records s))

-- whatever a cut keeps of the lines of the cells and of the epoch, they survive it
abbrev pub CutLaw : Type 0
CutLaw = (s : EpochCellsState) (choice kept : ℕ → ℕ) → AreEpochCells s → SurvivesCut s (left_of choice s.cells.bank) (left_of kept s.epoch)

-- a column of the records has a word of each cell
abbrev pub ColumnCountLaw : Type 0
ColumnCountLaw = (s : EpochCellsState) (word : ℕ) → length (column word (records s)) ≡ cell_count s

-- writes change each column of the records as they change a list
abbrev pub ColumnWritesLaw : Type 0
ColumnWritesLaw = (s : EpochCellsState) (xs : List Write) (word : ℕ) → AreWithin (cell_count s) xs → word < 3
    → column word (after_writes (records s) xs) ≡ column_after word (column word (records s)) xs
