use Rattle.std.proofs.Common.{◌≡◌}
use Rattle.line_memory.specs.Line.{survivor, line_at}
use Rattle.store_order.proofs.left.line_left.Given as goal

abbrev pub invariant-loop-i : goal.invariant-loop-i
invariant-loop-i l = l.words ≡ survivor (line_at l.bank.lines l.line) l.i
