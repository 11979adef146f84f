use Rattle.std.proofs.Common.{◌≡◌, ◌%◌, ◌^◌, take, sum_by}
use Rattle.drill.proofs.summary.pair_sum.Given as goal

-- the sum of what was gone over
abbrev pub invariant-loop-pair : goal.invariant-loop-pair
invariant-loop-pair l = l.all ≡ sum_by (λ p. p.value) (take l.pair-index l.pairs) % 2 ^ 64
