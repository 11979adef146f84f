use Rattle.plain_yard.proofs.Fields.{has_vec, seat_at}
use Rattle.plain_yard.proofs.Retreats.{has_lock, has_place, retreat_done}
use Rattle.plain_yard.proofs.yard.PlainYard.retreat.Goals as goal

pub index-seat-requires : goal.index-seat-requires
index-seat-requires c = has_vec c.self.inside c.args.self.now c.self.view_is c.args.thread c.requires.thread

pub index_mut-requires : goal.index_mut-requires
index_mut-requires c = has_vec c.self.inside c.args.self.now c.self.view_is c.args.thread c.requires.thread

pub index_mut-requires-2 : goal.index_mut-requires-2
index_mut-requires-2 c = has_lock c.self.inside c.args.self.now c.self.view_is c.self.invariant c.args.thread c.requires.thread c.index-seat.result.now (seat_at c.self.inside c.args.self.now c.self.view_is c.args.thread c.requires.thread c.index-seat.result.now c.index-seat.ensures) c.args.room c.args.value c.requires.may

pub index_mut-requires-3 : goal.index_mut-requires-3
index_mut-requires-3 c = has_place c.self.inside c.args.self.now c.self.view_is c.self.invariant c.args.thread c.requires.thread c.index-seat.result.now (seat_at c.self.inside c.args.self.now c.self.view_is c.args.thread c.requires.thread c.index-seat.result.now c.index-seat.ensures) c.args.room c.args.value c.requires.may

pub invariant_of-self : goal.invariant_of-self
invariant_of-self c = (retreat_done c.self.inside c.args.self.now c.self.view_is c.self.invariant c.args.thread c.requires.thread c.index-seat.result.now (seat_at c.self.inside c.args.self.now c.self.view_is c.args.thread c.requires.thread c.index-seat.result.now c.index-seat.ensures) c.args.room c.args.value c.requires.may c.retreated.result c.retreated.ensures).0

pub returns-clause-lawful : goal.returns-clause-lawful
returns-clause-lawful c = (retreat_done c.self.inside c.args.self.now c.self.view_is c.self.invariant c.args.thread c.requires.thread c.index-seat.result.now (seat_at c.self.inside c.args.self.now c.self.view_is c.args.thread c.requires.thread c.index-seat.result.now c.index-seat.ensures) c.args.room c.args.value c.requires.may c.retreated.result c.retreated.ensures).0.lawful

pub returns-clause-done : goal.returns-clause-done
returns-clause-done c = (retreat_done c.self.inside c.args.self.now c.self.view_is c.self.invariant c.args.thread c.requires.thread c.index-seat.result.now (seat_at c.self.inside c.args.self.now c.self.view_is c.args.thread c.requires.thread c.index-seat.result.now c.index-seat.ensures) c.args.room c.args.value c.requires.may c.retreated.result c.retreated.ensures).1
