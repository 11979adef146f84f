use Rattle.std.proofs.Common.{◌≡◌, ◌++◌, drop, length}
use Rattle.incll_var.specs.Restore.{tagged_from}
use Rattle.incll_var.proofs.restore.tagged_lines.Given as goal

abbrev pub invariant-loop-line : goal.invariant-loop-line
invariant-loop-line l = (l.tagged.items ++ tagged_from l.epoch l.line (drop l.line l.bank.lines) ≡ tagged_from l.epoch 0 l.bank.lines) × (l.line-end ≡ length l.bank.lines)
