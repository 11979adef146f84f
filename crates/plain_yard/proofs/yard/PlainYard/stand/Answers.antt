use Rattle.plain_yard.proofs.Fields.{has_vec, seat_at}
use Rattle.std.specs.Prelude.{bit_or}
use Rattle.plain_yard.proofs.Quiet.{stand_done, stand_refused}
use Rattle.plain_yard.proofs.Fields.{below}
use Rattle.plain_yard.proofs.yard.PlainYard.stand.Goals as goal

pub index-seat-requires : goal.index-seat-requires
index-seat-requires c = has_vec c.self.inside c.args.self.now c.self.view_is c.args.thread c.requires.thread

pub index_mut-requires : goal.index_mut-requires
index_mut-requires c = has_vec c.self.inside c.args.self.now c.self.view_is c.args.thread c.requires.thread

pub bit_of-requires : goal.bit_of-requires
bit_of-requires c = below c.self.inside c.self.invariant c.args.thread c.index-seat.result.now (seat_at c.self.inside c.args.self.now c.self.view_is c.args.thread c.requires.thread c.index-seat.result.now c.index-seat.ensures)

pub invariant_of-self : goal.invariant_of-self
invariant_of-self c = (stand_done c.self.inside c.args.self.now c.self.view_is c.self.invariant c.args.thread c.requires.thread c.index-seat.result.now (seat_at c.self.inside c.args.self.now c.self.view_is c.args.thread c.requires.thread c.index-seat.result.now c.index-seat.ensures) c.standing.result (c.self.inside.tick, bit_or c.self.inside.arrival c.bit_of.result) c.requires.may c.in_default.is c.standing.ensures (λ j. (c.self.inside.tick, bit_or c.self.inside.arrival (c.bit_of.ensures j)))).0

pub returns-clause-lawful : goal.returns-clause-lawful
returns-clause-lawful c = (stand_done c.self.inside c.args.self.now c.self.view_is c.self.invariant c.args.thread c.requires.thread c.index-seat.result.now (seat_at c.self.inside c.args.self.now c.self.view_is c.args.thread c.requires.thread c.index-seat.result.now c.index-seat.ensures) c.standing.result (c.self.inside.tick, bit_or c.self.inside.arrival c.bit_of.result) c.requires.may c.in_default.is c.standing.ensures (λ j. (c.self.inside.tick, bit_or c.self.inside.arrival (c.bit_of.ensures j)))).0.lawful

pub returns-clause-stood : goal.returns-clause-stood
returns-clause-stood c = (stand_done c.self.inside c.args.self.now c.self.view_is c.self.invariant c.args.thread c.requires.thread c.index-seat.result.now (seat_at c.self.inside c.args.self.now c.self.view_is c.args.thread c.requires.thread c.index-seat.result.now c.index-seat.ensures) c.standing.result (c.self.inside.tick, bit_or c.self.inside.arrival c.bit_of.result) c.requires.may c.in_default.is c.standing.ensures (λ j. (c.self.inside.tick, bit_or c.self.inside.arrival (c.bit_of.ensures j)))).1

pub returns-in-Some-clause-refused : goal.returns-in-Some-clause-refused
returns-in-Some-clause-refused c = stand_refused c.self.inside c.args.self.now c.self.view_is c.self.invariant c.args.thread c.requires.thread c.index-seat.result.now (seat_at c.self.inside c.args.self.now c.self.view_is c.args.thread c.requires.thread c.index-seat.result.now c.index-seat.ensures) c.in-Some.holding c.in-Some.is
