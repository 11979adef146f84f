use Rattle.std.proofs.Common.{◌≡◌, ℕ, ◌+◌, ◌<◌, drop}
use Rattle.line_memory.specs.Line.{all_lines, bank_at, AreLines}
use Rattle.line_memory.proofs.memory.lines_in.Given as goal

-- the sum so far and the lines of the banks that are left; the banks so far are whole
abbrev pub invariant-loop-bank : goal.invariant-loop-bank
invariant-loop-bank l = record {
  sum : l.sum + all_lines (drop l.bank-index l.banks) ≡ all_lines l.banks;
  whole : (room : ℕ) → room < l.bank-index → AreLines (bank_at l.banks room).lines;
}
