use Rattle.std.proofs.Common.{◌∙◌}
use Rattle.image_check.specs.Cells.{words_of}
use Rattle.image_check.proofs.QueueWalks.{free_counts}
use Rattle.image_check.proofs.room_checks.free_fault.Goals as goal

pub returns-in-Some : goal.returns-in-Some
returns-in-Some c = λ before marked. c.count_fault.ensures ∙ free_counts c.args.first c.args.cells.sizes (words_of c.args.cells) c.args.header c.args.met c.in-Some.all c.args.marks.now c.walk.new.marks before c.requires.header marked (c.in-Some.ensures.walked before marked)
