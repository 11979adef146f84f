-- What a power cut leaves of a store of accounts.
use Rattle.std.specs.Prelude.{◌≡◌, ℕ, ◌⊎◌, true, sum}
use Rattle.line_memory.specs.Line.{BankState}
use Rattle.epoch_cells.specs.Cells.{EpochCellsState, CanRecover, left_of, is_epoch_pending}
use Rattle.account_store.specs.Accounts.{IsAccountStore, recovered, checkpointed, balances}

-- what was left of a store can be recovered: to the balances of the last checkpoint, or to those of the next where its epoch is
-- pending; and the sum of all balances is the same
pub record DoAccountsSurvive (s : EpochCellsState) (accounts epoch : BankState) : Type 0 where
  pub lawful : CanRecover accounts epoch
  pub state : (recovered accounts epoch ≡ checkpointed s) ⊎ ((is_epoch_pending s.stage ≡ true) × (recovered accounts epoch ≡ balances s))
  pub same_sum : sum (recovered accounts epoch) ≡ sum (balances s)

-- whatever a cut keeps of the lines of a store, it is kept
abbrev pub AccountsCutLaw : Type 0
AccountsCutLaw = (s : EpochCellsState) (choice kept : ℕ → ℕ) → IsAccountStore s → DoAccountsSurvive s (left_of choice s.cells.bank) (left_of kept s.epoch)
