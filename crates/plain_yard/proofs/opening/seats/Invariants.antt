use Rattle.std.proofs.Common.{◌≡◌, replicate}
use Rattle.plain_yard.proofs.opening.seats.Given as goal

abbrev pub invariant-loop-thread : goal.invariant-loop-thread
invariant-loop-thread l = l.seats.items ≡ replicate l.thread l.fn.seat
