use Rattle.room_in_hand.proofs.Closings.{fence_kept_on}
use Rattle.room_in_hand.proofs.closing.fence_room.Goals as goal

pub returns-clause-kept : goal.returns-clause-kept
returns-clause-kept c = λ k was. let e = c.close_fence.ensures in
    fence_kept_on c.args.room.now c.close_fence.new.self was.used.0.cells e.is e.lines e.words e.in_memory e.whole k was
