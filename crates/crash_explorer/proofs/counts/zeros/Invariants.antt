use Rattle.std.proofs.Common.{◌≡◌, replicate}
use Rattle.crash_explorer.proofs.counts.zeros.Given as goal

abbrev pub invariant-loop-i : goal.invariant-loop-i
invariant-loop-i l = l.kept.items ≡ replicate l._i 0
