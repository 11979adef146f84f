use Rattle.std.proofs.Common.{◌≡◌}
use Rattle.epoch_cells.specs.Cells.{events_left}
use Rattle.account_store.specs.Accounts.{balances, settled}
use Rattle.account_store.proofs.store.AccountStore.finish.Given as goal

abbrev pub invariant-loop : goal.invariant-loop
invariant-loop l = record {
  same : balances l.self ≡ balances l.fn.self;
  later : settled l.self ≡ settled l.fn.self;
}

abbrev pub decreases-loop : goal.decreases-loop
decreases-loop l = events_left l.self
