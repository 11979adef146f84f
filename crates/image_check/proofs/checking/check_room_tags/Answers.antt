use Rattle.std.proofs.Common.{length, arith, sym}
use Rattle.image_check.specs.ImageFaults.{tag_fault}
use Rattle.image_check.proofs.ImageChecks.{tag_ahead, tag_fine, all_looked_at}
use Rattle.image_check.proofs.checking.check_room_tags.Goals as goal

pub returns-then-cells-line : goal.returns-then-cells-line
returns-then-cells-line c = sym (tag_ahead c.args.cells.epoch c.args.room c.args.cells.lines.now c.loop-line.line (length c.args.cells.lines.now) c.loop-line.invariant c.if-cells-line.true c.loop-line-test.true)

pub loop-line-preserved : goal.loop-line-preserved
loop-line-preserved c = tag_fine c.args.cells.epoch c.args.room c.args.cells.lines.now c.loop-line.line c.loop-line.invariant c.if-cells-line.false

pub returns : goal.returns
returns c = all_looked_at (tag_fault c.args.cells.epoch c.args.room c.args.cells.lines.now) c.loop-line.line (length c.args.cells.lines.now) c.loop-line.invariant (omega (arith, c.loop-line-test.false, c.loop-line.auto.line-end))
