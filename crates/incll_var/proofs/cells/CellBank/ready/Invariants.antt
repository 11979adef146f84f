use Rattle.std.proofs.Common.{◌≡◌, ◌<◌, ◌≤◌, ℕ}
use Rattle.line_memory.specs.Line.{line_at}
use Rattle.incll_var.specs.Plans.{line_in}
use Rattle.incll_var.specs.Cells.{IsCellBank, HasSameCells}
use Rattle.incll_var.proofs.cells.CellBank.ready.Given as goal

abbrev pub invariant-loop-place : goal.invariant-loop-place
invariant-loop-place l = record {
  is : l.self ≡ record l.initial.self { bank = l.self.bank };
  same : HasSameCells l.initial.self.bank l.self.bank;
  room : (k : ℕ) → k < l.place → l.n ≤ (line_at l.self.bank.lines (line_in l.plan.stores k)).spare;
  cells : IsCellBank l.self;
}
