use Rattle.std.proofs.Common.{◌≡◌, take}
use Rattle.crash_explorer.specs.Cut.{pending_of}
use Rattle.crash_explorer.proofs.counts.counts_of.Given as goal

abbrev pub invariant-loop-line : goal.invariant-loop-line
invariant-loop-line l = l.most.items ≡ pending_of (take l.line l.bank.lines)
