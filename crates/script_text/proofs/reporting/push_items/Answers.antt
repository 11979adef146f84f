use Rattle.std.proofs.Common.{length, arith}
use Rattle.script_text.proofs.MarkLaws.{next_within}
use Rattle.script_text.proofs.reporting.push_items.Goals as goal

-- a mark saves at most as many more entries as are left
pub split_at-requires : goal.split_at-requires
split_at-requires c =
    let l = c.loop-mark in
    let counted = l.invariant.counted in
    let within = next_within l.above (length c.args.entries.now) c.args.marks.now l.mark-index (omega (arith, c.loop-mark-test.true)) l.invariant.marked in
    omega (arith, counted, within)
