use Rattle.std.proofs.Common.{◌≡◌, ◌<◌, true, false}
use Rattle.line_memory.specs.Line.{unasked}
use Rattle.incll_var.proofs.tests.close.Given as goal

abbrev pub invariant-loop-more : goal.invariant-loop-more
invariant-loop-more g l = record {
  left : l.more ≡ true → 0 < unasked l.cells.bank.lines;
  none : l.more ≡ false → unasked l.cells.bank.lines ≡ 0;
}

abbrev pub decreases-loop-more : goal.decreases-loop-more
decreases-loop-more g l = unasked l.cells.bank.lines
