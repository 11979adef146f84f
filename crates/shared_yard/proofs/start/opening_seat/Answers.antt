use Rattle.shared_yard.proofs.Dealing.{opening_hand}
use Rattle.shared_yard.proofs.start.opening_seat.Goals as goal

pub invariant_of-result : goal.invariant_of-result
invariant_of-result c = record { hand = opening_hand c.args.beginning.now c.args.thread c.args.seat.me c.requires.valid c.requires.thread c.requires.known c.requires.slots }
