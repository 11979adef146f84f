use Rattle.std.proofs.Common.{◌∙◌}
use Rattle.line_memory.specs.Line.{line_at}
use Rattle.store_order.proofs.More.{left-more}
use Rattle.store_order.proofs.left.line_left.Goals as goal

pub loop-i-preserved : goal.loop-i-preserved
loop-i-preserved c = c.put_word.ensures ∙ left-more (line_at c.args.bank.now.lines c.args.line) c.loop-i.i _ _ c.loop-i.words c.pending_at-word.ensures c.loop-i.invariant
