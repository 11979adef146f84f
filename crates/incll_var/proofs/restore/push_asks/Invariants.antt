use Rattle.std.proofs.Common.{◌≡◌, ◌++◌, drop}
use Rattle.incll_var.specs.Restore.{asks}
use Rattle.incll_var.proofs.restore.push_asks.Given as goal

abbrev pub invariant-loop-line : goal.invariant-loop-line
invariant-loop-line l = l.events.items ++ asks (drop l.line-index l.lines) ≡ l.initial.events.items ++ asks l.lines
