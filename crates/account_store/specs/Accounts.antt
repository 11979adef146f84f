-- Accounts in cells: their balances, and that none is made or lost.
use Rattle.std.specs.Prelude.{◌≡◌, ℕ, ◌+◌, ◌-◌, List, [], ◌∷◌, sum, slice_index, slice_set}
use Rattle.line_memory.specs.Line.{BankState}
use Rattle.epoch_cells.specs.Cells.{EpochCellsState, AreEpochCells, records, saved_records, recovered_records, settled_records, column}

-- the balances, behind all stores that are left of a transfer: of each cell, record word 0
abbrev pub balances : EpochCellsState → List ℕ
balances s = column 0 (records s)

-- the balances of the last checkpoint
abbrev pub checkpointed : EpochCellsState → List ℕ
checkpointed s = column 0 (saved_records s)

-- the balances of the last checkpoint, once all events that are left of a checkpoint or of a recovery are made
abbrev pub settled : EpochCellsState → List ℕ
settled s = column 0 (settled_records s)

-- the balances that two banks without a pending store recover to
abbrev pub recovered : BankState → BankState → List ℕ
recovered accounts epoch = column 0 (recovered_records accounts epoch)

-- the balances after a transfer of this amount
abbrev pub moved : List ℕ → ℕ → ℕ → ℕ → List ℕ
moved bs from to amount = slice_set (slice_set bs from (slice_index bs from - amount)) to (slice_index bs to + amount)

-- the record of an account with this balance
abbrev pub account_record : ℕ → List ℕ
account_record balance = balance ∷ 0 ∷ 0 ∷ []

-- a store of accounts: no balance was made or lost since the last checkpoint
pub record IsAccountStore (s : EpochCellsState) : Type 0 where
  pub cells : AreEpochCells s
  pub same_sum : sum (checkpointed s) ≡ sum (balances s)
