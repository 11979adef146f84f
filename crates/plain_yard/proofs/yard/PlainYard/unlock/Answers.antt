use Rattle.std.proofs.Common.{◌∙◌}
use Rattle.plain_yard.proofs.Fields.{has_vec, seat_at}
use Rattle.plain_yard.specs.Seats.{freed_seat}
use Rattle.plain_yard.proofs.Fields.{below, seat_places, few_shards_here, few_threads_here}
use Rattle.plain_yard.proofs.Unlocks.{has_lock, has_place, learns, unlock_done}
use Rattle.plain_yard.proofs.yard.PlainYard.unlock.Goals as goal

pub index-seat-requires : goal.index-seat-requires
index-seat-requires c = has_vec c.self.inside c.args.self.now c.self.view_is c.args.thread c.requires.thread

pub index_mut-requires : goal.index_mut-requires
index_mut-requires c = has_vec c.self.inside c.args.self.now c.self.view_is c.args.thread c.requires.thread

pub index_mut-requires-2 : goal.index_mut-requires-2
index_mut-requires-2 c = has_lock c.self.inside c.args.self.now c.self.view_is c.self.invariant c.args.thread c.requires.thread c.index-seat.result.now (seat_at c.self.inside c.args.self.now c.self.view_is c.args.thread c.requires.thread c.index-seat.result.now c.index-seat.ensures) c.args.room c.args.value c.requires.may

pub index_mut-requires-3 : goal.index_mut-requires-3
index_mut-requires-3 c = has_place c.self.inside c.args.self.now c.self.view_is c.self.invariant c.args.thread c.requires.thread c.index-seat.result.now (seat_at c.self.inside c.args.self.now c.self.view_is c.args.thread c.requires.thread c.index-seat.result.now c.index-seat.ensures) c.args.room c.args.value c.requires.may

pub freed-requires-clause-places : goal.freed-requires-clause-places
freed-requires-clause-places c = (seat_places c.self.inside c.self.invariant c.args.thread c.index-seat.result.now (seat_at c.self.inside c.args.self.now c.self.view_is c.args.thread c.requires.thread c.index-seat.result.now c.index-seat.ensures)).0

pub freed-requires-clause-learns : goal.freed-requires-clause-learns
freed-requires-clause-learns c = learns c.self.inside c.args.self.now c.self.view_is c.self.invariant c.args.thread c.requires.thread c.index-seat.result.now (seat_at c.self.inside c.args.self.now c.self.view_is c.args.thread c.requires.thread c.index-seat.result.now c.index-seat.ensures) c.args.room c.args.value c.requires.may

pub freed-requires-clause-shards : goal.freed-requires-clause-shards
freed-requires-clause-shards c = few_shards_here c.self.inside c.self.invariant

pub freed-requires-clause-threads : goal.freed-requires-clause-threads
freed-requires-clause-threads c = few_threads_here c.self.inside c.self.invariant

pub freed-requires-clause-thread : goal.freed-requires-clause-thread
freed-requires-clause-thread c = below c.self.inside c.self.invariant c.args.thread c.index-seat.result.now (seat_at c.self.inside c.args.self.now c.self.view_is c.args.thread c.requires.thread c.index-seat.result.now c.index-seat.ensures)

pub invariant_of-self : goal.invariant_of-self
invariant_of-self c = (unlock_done c.self.inside c.args.self.now c.self.view_is c.self.invariant c.args.thread c.requires.thread c.index-seat.result.now (seat_at c.self.inside c.args.self.now c.self.view_is c.args.thread c.requires.thread c.index-seat.result.now c.index-seat.ensures) c.args.room c.args.value c.requires.may c.freed.result (c.freed.ensures ∙ (λ j. freed_seat c.self.inside.beginning.settings c.args.thread c.args.room (c.is_empty_queue-empty.ensures j) (c.end_in-end.ensures j) c.index-seat.result.now))).0

pub returns-clause-lawful : goal.returns-clause-lawful
returns-clause-lawful c = (unlock_done c.self.inside c.args.self.now c.self.view_is c.self.invariant c.args.thread c.requires.thread c.index-seat.result.now (seat_at c.self.inside c.args.self.now c.self.view_is c.args.thread c.requires.thread c.index-seat.result.now c.index-seat.ensures) c.args.room c.args.value c.requires.may c.freed.result (c.freed.ensures ∙ (λ j. freed_seat c.self.inside.beginning.settings c.args.thread c.args.room (c.is_empty_queue-empty.ensures j) (c.end_in-end.ensures j) c.index-seat.result.now))).0.lawful

pub returns-clause-done : goal.returns-clause-done
returns-clause-done c = (unlock_done c.self.inside c.args.self.now c.self.view_is c.self.invariant c.args.thread c.requires.thread c.index-seat.result.now (seat_at c.self.inside c.args.self.now c.self.view_is c.args.thread c.requires.thread c.index-seat.result.now c.index-seat.ensures) c.args.room c.args.value c.requires.may c.freed.result (c.freed.ensures ∙ (λ j. freed_seat c.self.inside.beginning.settings c.args.thread c.args.room (c.is_empty_queue-empty.ensures j) (c.end_in-end.ensures j) c.index-seat.result.now))).1
