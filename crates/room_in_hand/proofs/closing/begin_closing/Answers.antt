use Rattle.std.proofs.Common.{refl}
use Rattle.room_in_hand.proofs.Closings.{begun_kept}
use Rattle.room_in_hand.proofs.closing.begin_closing.Goals as goal

pub returns-clause-kept : goal.returns-clause-kept
returns-clause-kept c = λ k was. let e = c.close_begin.ensures in
    begun_kept c.args.room.now c.close_begin.new.self c.close_begin.result _ e.unasked refl was.used.0.cells e.is e.lines e.words e.whole k was
