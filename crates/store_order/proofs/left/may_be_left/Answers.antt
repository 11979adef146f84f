use Rattle.std.proofs.Common.{rules, below_more, get_or, []}
use Rattle.line_memory.specs.Line.{line_at}
use Rattle.store_order.specs.Survivors.{IsSurvivor}
use Rattle.store_order.proofs.left.may_be_left.Goals as goal

pub loop-i-preserved : goal.loop-i-preserved
loop-i-preserved c = below_more (λ k. IsSurvivor (line_at c.args.bank.now.lines k) (get_or c.args.lines.now k [])) c.loop-i.i c.loop-i.invariant (c.if-not-is_survivor.ensures.0 (search rules))
