use Rattle.std.proofs.Common.{◌≡◌}
use Rattle.crash_explorer.specs.Cut.{bare}
use Rattle.explore_many.specs.Store.{records_to}
use Rattle.explore_many.proofs.store.records.Given as goal

abbrev pub invariant-loop-cell : goal.invariant-loop-cell
invariant-loop-cell l = l.state.items ≡ records_to (bare l.bank.lines) l.cell
