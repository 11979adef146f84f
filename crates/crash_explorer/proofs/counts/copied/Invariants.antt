use Rattle.std.proofs.Common.{◌≡◌, take}
use Rattle.crash_explorer.proofs.counts.copied.Given as goal

abbrev pub invariant-loop-count : goal.invariant-loop-count
invariant-loop-count l = l.kept.items ≡ take l.count-index l.counts
