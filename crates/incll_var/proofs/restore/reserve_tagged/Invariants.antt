use Rattle.std.proofs.Common.{◌≡◌, ◌<◌, ◌≤◌, ℕ, length}
use Rattle.line_memory.specs.Line.{line_at, AreLines}
use Rattle.room_model.specs.Cell.{tag_of}
use Rattle.incll_var.specs.Cells.{HasSameCells}
use Rattle.incll_var.proofs.restore.reserve_tagged.Given as goal

abbrev pub invariant-loop-line : goal.invariant-loop-line
invariant-loop-line l = record {
  same : HasSameCells l.initial.bank l.bank;
  room : (j : ℕ) → j < l.line → tag_of (line_at l.bank.lines j).base ≡ l.epoch → 3 ≤ (line_at l.bank.lines j).spare;
  end : l.line-end ≡ length l.bank.lines;
  whole : AreLines l.bank.lines;
}
