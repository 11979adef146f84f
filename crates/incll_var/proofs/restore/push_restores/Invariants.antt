use Rattle.std.proofs.Common.{◌≡◌, ◌++◌, drop}
use Rattle.incll_var.specs.Restore.{restores}
use Rattle.incll_var.proofs.restore.push_restores.Given as goal

abbrev pub invariant-loop-line : goal.invariant-loop-line
invariant-loop-line l = l.events.items ++ restores (drop l.line-index l.lines) ≡ l.initial.events.items ++ restores l.lines
