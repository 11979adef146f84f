use Rattle.std.proofs.Common.{◌≡◌, ◌≤◌, ◌*◌, length}
use Rattle.crash_explorer.specs.Cut.{bare}
use Rattle.explore_many.specs.Store.{restored_to, cost_to}
use Rattle.explore_many.proofs.store.restore_all.Given as goal

abbrev pub invariant-loop-cell : goal.invariant-loop-cell
invariant-loop-cell l = (bare l.bank.lines ≡ restored_to l.epoch (bare l.fn.bank.lines) l.cell) × (length l.bank.lines ≡ 16) × (l.events ≡ cost_to l.epoch (bare l.fn.bank.lines) l.cell) × (l.events ≤ 2 * l.cell)
