use Rattle.std.proofs.Common.{◌≡◌}
use Rattle.store_order.specs.Choice.{state_after}
use Rattle.store_order.proofs.survivors.words_from.Given as goal

abbrev pub invariant-loop-i : goal.invariant-loop-i
invariant-loop-i l = l.words ≡ state_after l._i l.seed
