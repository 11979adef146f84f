use Rattle.room_in_hand.proofs.Closings.{back_kept_on}
use Rattle.room_in_hand.proofs.closing.write_line_back.Goals as goal

pub returns-clause-kept : goal.returns-clause-kept
returns-clause-kept c = λ k was. let e = c.close_next.ensures in
    back_kept_on c.args.room.now c.close_next.new.self c.close_next.result was.used.0.cells e.line e.is e.fewer e.more e.lines e.words e.in_memory e.whole k was
