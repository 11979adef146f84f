use Rattle.std.proofs.Common.{[], Some, None}
use Rattle.image_check.specs.Cells.{words_of}
use Rattle.image_check.proofs.QueueWalks.{nothing_met, queue_walked, queue_astray, queue_ends_fault, queue_free_fault}
use Rattle.image_check.proofs.room_checks.queue_chain_fault.Goals as goal

pub returns-in-None : goal.returns-in-None
returns-in-None c =
    queue_astray c.args.cells.sizes (words_of c.args.cells) c.walk.new.marks
    (queue_walked c.args.cells.sizes (words_of c.args.cells) c.args.header c.word.result None c.walk.new.marks c.requires.header c.word.ensures (c.in-None.ensures.walked [] (nothing_met c.args.marks.now c.requires.clear)))

pub returns-then-last-met : goal.returns-then-last-met
returns-then-last-met c =
    queue_free_fault c.args.cells.sizes (words_of c.args.cells) c.in-Some.met c.walk.new.marks c.word-last.result c.free_fault.result
    (queue_walked c.args.cells.sizes (words_of c.args.cells) c.args.header c.word.result (Some c.in-Some.met) c.walk.new.marks c.requires.header c.word.ensures (c.in-Some.ensures.walked [] (nothing_met c.args.marks.now c.requires.clear)))
    c.word-last.ensures c.if-last-met.true c.free_fault.ensures

pub returns-else-last-met : goal.returns-else-last-met
returns-else-last-met c =
    queue_ends_fault c.args.cells.sizes (words_of c.args.cells) c.in-Some.met c.walk.new.marks c.word-last.result
    (queue_walked c.args.cells.sizes (words_of c.args.cells) c.args.header c.word.result (Some c.in-Some.met) c.walk.new.marks c.requires.header c.word.ensures (c.in-Some.ensures.walked [] (nothing_met c.args.marks.now c.requires.clear)))
    c.word-last.ensures c.if-last-met.false
