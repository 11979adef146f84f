use Rattle.std.proofs.Common.{◌≡◌, map, take}
use Rattle.account_store.specs.Accounts.{account_record}
use Rattle.account_store.proofs.store.records_of.Given as goal

-- the records of the accounts so far
abbrev pub invariant-loop-balance : goal.invariant-loop-balance
invariant-loop-balance l = l.records.items ≡ map account_record (take l.balance-index l.first)
