use Rattle.std.proofs.Common.{◌≡◌, ◌<◌, ℕ, length}
use Rattle.line_memory.specs.Line.{line_at}
use Rattle.incll_var.specs.Cells.{IsSettled}
use Rattle.image_check.proofs.tests.settle.Given as goal

abbrev pub invariant-loop-line : goal.invariant-loop-line
invariant-loop-line g l = ((j : ℕ) → j < l.line → IsSettled l.epoch (line_at l.bank.lines j)) × (l.line-end ≡ length l.bank.lines)
