use Rattle.plain_yard.proofs.Fields.{has_vec, seat_at}
use Rattle.plain_yard.proofs.Quiet.{off_done}
use Rattle.plain_yard.proofs.yard.PlainYard.off.Goals as goal

pub index-seat-requires : goal.index-seat-requires
index-seat-requires c = has_vec c.self.inside c.args.self.now c.self.view_is c.args.thread c.requires.thread

pub index_mut-requires : goal.index_mut-requires
index_mut-requires c = has_vec c.self.inside c.args.self.now c.self.view_is c.args.thread c.requires.thread

pub invariant_of-self : goal.invariant_of-self
invariant_of-self c = (off_done c.self.inside c.args.self.now c.self.view_is c.self.invariant c.args.thread c.requires.thread c.index-seat.result.now (seat_at c.self.inside c.args.self.now c.self.view_is c.args.thread c.requires.thread c.index-seat.result.now c.index-seat.ensures) c.turning_off.result (c.max-self-inside.result, c.self.inside.arrival) c.turning_off.ensures (λ j. (c.max-self-inside.ensures j, c.self.inside.arrival))).0

pub returns-clause-lawful : goal.returns-clause-lawful
returns-clause-lawful c = (off_done c.self.inside c.args.self.now c.self.view_is c.self.invariant c.args.thread c.requires.thread c.index-seat.result.now (seat_at c.self.inside c.args.self.now c.self.view_is c.args.thread c.requires.thread c.index-seat.result.now c.index-seat.ensures) c.turning_off.result (c.max-self-inside.result, c.self.inside.arrival) c.turning_off.ensures (λ j. (c.max-self-inside.ensures j, c.self.inside.arrival))).0.lawful

pub returns-clause-done : goal.returns-clause-done
returns-clause-done c = (off_done c.self.inside c.args.self.now c.self.view_is c.self.invariant c.args.thread c.requires.thread c.index-seat.result.now (seat_at c.self.inside c.args.self.now c.self.view_is c.args.thread c.requires.thread c.index-seat.result.now c.index-seat.ensures) c.turning_off.result (c.max-self-inside.result, c.self.inside.arrival) c.turning_off.ensures (λ j. (c.max-self-inside.ensures j, c.self.inside.arrival))).1
