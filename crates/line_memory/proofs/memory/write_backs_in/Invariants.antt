use Rattle.std.proofs.Common.{◌≡◌, drop}
use Rattle.line_memory.specs.Line.{all_write_backs, write_backs_on}
use Rattle.line_memory.proofs.memory.write_backs_in.Given as goal

-- the write-backs of the banks that are left, on top of the sum so far
abbrev pub invariant-loop-bank : goal.invariant-loop-bank
invariant-loop-bank l = write_backs_on l.sum (drop l.bank-index l.banks) ≡ all_write_backs l.banks
