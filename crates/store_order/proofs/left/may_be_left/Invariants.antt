use Rattle.std.proofs.Common.{ℕ, ◌<◌, get_or, []}
use Rattle.line_memory.specs.Line.{line_at}
use Rattle.store_order.specs.Survivors.{IsSurvivor}
use Rattle.store_order.proofs.left.may_be_left.Given as goal

abbrev pub invariant-loop-i : goal.invariant-loop-i
invariant-loop-i l = (k : ℕ) → k < l.i → IsSurvivor (line_at l.bank.lines k) (get_or l.lines k [])
