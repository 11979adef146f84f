use Rattle.std.proofs.Common.{◌≡◌, ℕ, ◌+◌, ◌<◌, ◌≤◌, length, drop, slice_index}
use Rattle.store_order.specs.Choice.{count_listed}
use Rattle.store_order.proofs.listed.counts_listed.Given as goal

abbrev pub decreases-loop-i : goal.decreases-loop-i
decreases-loop-i l = l.i

abbrev pub invariant-loop-i : goal.invariant-loop-i
invariant-loop-i l = record {
  many : length l.counts.items ≡ l.lines;
  within : l.i ≤ length l.entries;
  each : (k : ℕ) → k < l.lines → slice_index l.counts.items k ≡ count_listed (drop l.i l.entries) (l.first + k);
}
