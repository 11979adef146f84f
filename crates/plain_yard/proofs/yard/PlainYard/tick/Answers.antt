use Rattle.std.proofs.Common.{◌+◌, refl, arith}
use Rattle.plain_yard.proofs.Fields.{has_vec, seat_at}
use Rattle.plain_yard.proofs.Quiet.{tick_done, few_ticks}
use Rattle.yard_laws.proofs.Looks.{tick_fits}
use Rattle.plain_yard.specs.Kept.{state_in, checkpoints_in}
use Rattle.plain_yard.specs.Meaning.{entries_in}
use Rattle.plain_yard.proofs.yard.PlainYard.tick.Goals as goal

pub index-seat-requires : goal.index-seat-requires
index-seat-requires c = has_vec c.self.inside c.args.self.now c.self.view_is c.args.thread c.requires.thread

pub index_mut-requires : goal.index_mut-requires
index_mut-requires c = has_vec c.self.inside c.args.self.now c.self.view_is c.args.thread c.requires.thread

pub ticking-requires : goal.ticking-requires
ticking-requires c = few_ticks c.self.inside c.args.self.now c.self.view_is c.self.invariant c.args.thread c.requires.thread c.index-seat.result.now (seat_at c.self.inside c.args.self.now c.self.view_is c.args.thread c.requires.thread c.index-seat.result.now c.index-seat.ensures) c.requires.may

pub invariant_of-self : goal.invariant_of-self
invariant_of-self c = (tick_done c.self.inside c.args.self.now c.self.view_is c.self.invariant c.args.thread c.requires.thread c.index-seat.result.now (seat_at c.self.inside c.args.self.now c.self.view_is c.args.thread c.requires.thread c.index-seat.result.now c.index-seat.ensures) c.ticking.result (c.self.inside.tick + 1, c.self.inside.arrival) c.requires.may c.ticking.ensures refl).0

pub returns-clause-lawful : goal.returns-clause-lawful
returns-clause-lawful c = (tick_done c.self.inside c.args.self.now c.self.view_is c.self.invariant c.args.thread c.requires.thread c.index-seat.result.now (seat_at c.self.inside c.args.self.now c.self.view_is c.args.thread c.requires.thread c.index-seat.result.now c.index-seat.ensures) c.ticking.result (c.self.inside.tick + 1, c.self.inside.arrival) c.requires.may c.ticking.ensures refl).0.lawful

pub returns-clause-done : goal.returns-clause-done
returns-clause-done c = (tick_done c.self.inside c.args.self.now c.self.view_is c.self.invariant c.args.thread c.requires.thread c.index-seat.result.now (seat_at c.self.inside c.args.self.now c.self.view_is c.args.thread c.requires.thread c.index-seat.result.now c.index-seat.ensures) c.ticking.result (c.self.inside.tick + 1, c.self.inside.arrival) c.requires.may c.ticking.ensures refl).1

pub overflow_add-self : goal.overflow_add-self
overflow_add-self c = let f = tick_fits c.self.inside.beginning (state_in c.self.inside) (entries_in c.self.inside.log.items) (checkpoints_in c.self.inside) c.self.invariant.lawful in omega (arith, f)
