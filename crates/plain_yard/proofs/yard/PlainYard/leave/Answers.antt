use Rattle.std.proofs.Common.{◌-◌, ◌^◌, refl, sym, ap, ◌∙◌}
use Rattle.plain_yard.proofs.Fields.{has_vec, seat_at}
use Rattle.std.specs.Prelude.{bit_and}
use Rattle.restart_point.specs.declared.arrival.Arrival.{Arrival}
use Rattle.plain_yard.specs.Seats.{run_seat}
use Rattle.plain_yard.proofs.Quiet.{leave_done, leave_rests, no}
use Rattle.plain_yard.proofs.Fields.{below}
use Rattle.plain_yard.proofs.yard.PlainYard.leave.Goals as goal

pub index-seat-requires : goal.index-seat-requires
index-seat-requires c = has_vec c.self.inside c.args.self.now c.self.view_is c.args.thread c.requires.thread

pub index_mut-requires : goal.index_mut-requires
index_mut-requires c = has_vec c.self.inside c.args.self.now c.self.view_is c.args.thread c.requires.thread

pub index_mut-requires-else-allows_leave : goal.index_mut-requires-else-allows_leave
index_mut-requires-else-allows_leave c = has_vec c.self.inside c.args.self.now c.self.view_is c.args.thread c.requires.thread

pub bit_of-requires : goal.bit_of-requires
bit_of-requires c = below c.self.inside c.self.invariant c.args.thread c.index-seat.result.now (seat_at c.self.inside c.args.self.now c.self.view_is c.args.thread c.requires.thread c.index-seat.result.now c.index-seat.ensures)

pub invariant_of-self : goal.invariant_of-self
invariant_of-self c = (leave_done c.self.inside c.args.self.now c.self.view_is c.self.invariant c.args.thread c.requires.thread c.index-seat.result.now (seat_at c.self.inside c.args.self.now c.self.view_is c.args.thread c.requires.thread c.index-seat.result.now c.index-seat.ensures) c.running.result (c.self.inside.tick, bit_and c.self.inside.arrival (2 ^ 64 - 1 - c.bit_of.result)) c.args.end c.requires.may (c.allows_leave.ensures.0 c.if-allows_leave.true) c.of-epoch.result.epoch (ap (λ (a : Arrival). a.epoch) c.of-epoch.ensures) (c.running.ensures ∙ (λ j. run_seat (c.of-epoch.ensures j).epoch c.self.inside.beginning.settings.every (c.looking-looked.ensures j))) (λ j. (c.self.inside.tick, bit_and c.self.inside.arrival (2 ^ 64 - 1 - c.bit_of.ensures j)))).0

pub returns-then-allows_leave-clause-lawful : goal.returns-then-allows_leave-clause-lawful
returns-then-allows_leave-clause-lawful c = (leave_done c.self.inside c.args.self.now c.self.view_is c.self.invariant c.args.thread c.requires.thread c.index-seat.result.now (seat_at c.self.inside c.args.self.now c.self.view_is c.args.thread c.requires.thread c.index-seat.result.now c.index-seat.ensures) c.running.result (c.self.inside.tick, bit_and c.self.inside.arrival (2 ^ 64 - 1 - c.bit_of.result)) c.args.end c.requires.may (c.allows_leave.ensures.0 c.if-allows_leave.true) c.of-epoch.result.epoch (ap (λ (a : Arrival). a.epoch) c.of-epoch.ensures) (c.running.ensures ∙ (λ j. run_seat (c.of-epoch.ensures j).epoch c.self.inside.beginning.settings.every (c.looking-looked.ensures j))) (λ j. (c.self.inside.tick, bit_and c.self.inside.arrival (2 ^ 64 - 1 - c.bit_of.ensures j)))).0.lawful

pub returns-then-allows_leave-clause-left : goal.returns-then-allows_leave-clause-left
returns-then-allows_leave-clause-left c = (leave_done c.self.inside c.args.self.now c.self.view_is c.self.invariant c.args.thread c.requires.thread c.index-seat.result.now (seat_at c.self.inside c.args.self.now c.self.view_is c.args.thread c.requires.thread c.index-seat.result.now c.index-seat.ensures) c.running.result (c.self.inside.tick, bit_and c.self.inside.arrival (2 ^ 64 - 1 - c.bit_of.result)) c.args.end c.requires.may (c.allows_leave.ensures.0 c.if-allows_leave.true) c.of-epoch.result.epoch (ap (λ (a : Arrival). a.epoch) c.of-epoch.ensures) (c.running.ensures ∙ (λ j. run_seat (c.of-epoch.ensures j).epoch c.self.inside.beginning.settings.every (c.looking-looked.ensures j))) (λ j. (c.self.inside.tick, bit_and c.self.inside.arrival (2 ^ 64 - 1 - c.bit_of.ensures j)))).1

pub invariant_of-self-else-allows_leave : goal.invariant_of-self-else-allows_leave
invariant_of-self-else-allows_leave c = (leave_rests c.self.inside c.args.self.now c.self.view_is c.self.invariant c.args.thread c.requires.thread c.index-seat.result.now (seat_at c.self.inside c.args.self.now c.self.view_is c.args.thread c.requires.thread c.index-seat.result.now c.index-seat.ensures) c.looking-looked.result (c.self.inside.tick, c.self.inside.arrival) c.args.end c.requires.may (λ m. no (sym (c.allows_leave.ensures.1 m) ∙ c.if-allows_leave.false)) c.looking-looked.ensures refl).0

pub returns-else-allows_leave-clause-lawful : goal.returns-else-allows_leave-clause-lawful
returns-else-allows_leave-clause-lawful c = (leave_rests c.self.inside c.args.self.now c.self.view_is c.self.invariant c.args.thread c.requires.thread c.index-seat.result.now (seat_at c.self.inside c.args.self.now c.self.view_is c.args.thread c.requires.thread c.index-seat.result.now c.index-seat.ensures) c.looking-looked.result (c.self.inside.tick, c.self.inside.arrival) c.args.end c.requires.may (λ m. no (sym (c.allows_leave.ensures.1 m) ∙ c.if-allows_leave.false)) c.looking-looked.ensures refl).0.lawful

pub returns-else-allows_leave-clause-rests : goal.returns-else-allows_leave-clause-rests
returns-else-allows_leave-clause-rests c = (leave_rests c.self.inside c.args.self.now c.self.view_is c.self.invariant c.args.thread c.requires.thread c.index-seat.result.now (seat_at c.self.inside c.args.self.now c.self.view_is c.args.thread c.requires.thread c.index-seat.result.now c.index-seat.ensures) c.looking-looked.result (c.self.inside.tick, c.self.inside.arrival) c.args.end c.requires.may (λ m. no (sym (c.allows_leave.ensures.1 m) ∙ c.if-allows_leave.false)) c.looking-looked.ensures refl).1
