use Rattle.std.proofs.Common.{◌≡◌, ◌++◌, drop}
use Rattle.crash_explorer.specs.Listed.{listed}
use Rattle.crash_explorer.proofs.leaving.entries_of.Given as goal

abbrev pub invariant-loop-i : goal.invariant-loop-i
invariant-loop-i l = l.entries.items ++ listed l.i (drop l.i l.kept) ≡ listed 0 l.kept
