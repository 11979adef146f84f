use Rattle.std.proofs.Common.{not, nat_le, refl}
use Rattle.plain_yard.proofs.Fields.{has_vec, seat_at}
use Rattle.plain_yard.proofs.Quiet.{power_done}
use Rattle.plain_yard.proofs.yard.PlainYard.powered.Goals as goal

pub index-seat-requires : goal.index-seat-requires
index-seat-requires c = has_vec c.self.inside c.args.self.now c.self.view_is c.args.thread c.requires.thread

pub index_mut-requires : goal.index_mut-requires
index_mut-requires c = has_vec c.self.inside c.args.self.now c.self.view_is c.args.thread c.requires.thread

pub invariant_of-self : goal.invariant_of-self
invariant_of-self c = (power_done c.self.inside c.args.self.now c.self.view_is c.self.invariant c.args.thread c.requires.thread c.index-seat.result.now (seat_at c.self.inside c.args.self.now c.self.view_is c.args.thread c.requires.thread c.index-seat.result.now c.index-seat.ensures) c.seeing.result (c.self.inside.tick, c.self.inside.arrival) (not (nat_le c.self.inside.beginning.limit c.self.inside.tick)) refl c.seeing.ensures refl).0

pub returns-clause-lawful : goal.returns-clause-lawful
returns-clause-lawful c = (power_done c.self.inside c.args.self.now c.self.view_is c.self.invariant c.args.thread c.requires.thread c.index-seat.result.now (seat_at c.self.inside c.args.self.now c.self.view_is c.args.thread c.requires.thread c.index-seat.result.now c.index-seat.ensures) c.seeing.result (c.self.inside.tick, c.self.inside.arrival) (not (nat_le c.self.inside.beginning.limit c.self.inside.tick)) refl c.seeing.ensures refl).0.lawful

pub returns-clause-saw : goal.returns-clause-saw
returns-clause-saw c = (power_done c.self.inside c.args.self.now c.self.view_is c.self.invariant c.args.thread c.requires.thread c.index-seat.result.now (seat_at c.self.inside c.args.self.now c.self.view_is c.args.thread c.requires.thread c.index-seat.result.now c.index-seat.ensures) c.seeing.result (c.self.inside.tick, c.self.inside.arrival) (not (nat_le c.self.inside.beginning.limit c.self.inside.tick)) refl c.seeing.ensures refl).1
