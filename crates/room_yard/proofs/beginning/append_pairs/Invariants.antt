use Rattle.std.proofs.Common.{◌≡◌, ◌++◌, map, take}
use Rattle.room_yard.proofs.beginning.append_pairs.Given as goal

abbrev pub invariant-loop-pair : goal.invariant-loop-pair
invariant-loop-pair l = l.pairs ≡ l.initial.pairs ++ map (λ p. (p.key, p.value)) (take l.pair-index l.fn.more)
