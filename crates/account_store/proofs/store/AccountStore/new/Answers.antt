use Rattle.std.proofs.Common.{ap, ◌∙◌}
use Rattle.epoch_cells.specs.Cells.{column}
use Rattle.account_store.proofs.Balances.{new_balances}
use Rattle.account_store.proofs.store.AccountStore.new.Goals as goal

pub returns-clause-balances : goal.returns-clause-balances
returns-clause-balances c = ap (column 0) (c.in_ok-cells.ensures.records ∙ c.as_slice.ensures.value ∙ c.in_ok-records.ensures) ∙ new_balances c.args.first.now

pub returns-clause-saved : goal.returns-clause-saved
returns-clause-saved c = ap (column 0) (c.in_ok-cells.ensures.saved ∙ c.as_slice.ensures.value ∙ c.in_ok-records.ensures) ∙ new_balances c.args.first.now
