use Rattle.std.proofs.Common.{◌≡◌, ◌%◌, ◌^◌, take, sum}
use Rattle.drill.proofs.summary.item_sum.Given as goal

-- the sum of what was gone over
abbrev pub invariant-loop-item : goal.invariant-loop-item
invariant-loop-item l = l.all ≡ sum (take l.item-index l.items) % 2 ^ 64
