use Rattle.std.proofs.Common.{◌≡◌, ◌∷◌, replicate}
use Rattle.shared_yard.proofs.opening.words.Given as goal

abbrev pub invariant-loop-lock : goal.invariant-loop-lock
invariant-loop-lock l = l.words.items ≡ 0 ∷ 0 ∷ l.fn.arrival ∷ replicate l._lock 0
