use Rattle.std.proofs.Common.{◌≡◌, ◌+◌, ℕ, Some, Option, get_or, sym, ap, ◌∙◌, subst, arith}
use Rattle.plain_yard.proofs.Fields.{has_vec, seat_at}
use Rattle.rooms.specs.declared.room.Room.{Room}
use Rattle.std.specs.Option.{IsSome}
use Rattle.plain_yard.specs.Seats.{look_seat}
use Rattle.yard_laws.proofs.Lists.{at_index}
use Rattle.plain_yard.proofs.Fields.{word_is}
use Rattle.plain_yard.proofs.Locks.{has_lock, has_place, is_some, lock_done, held_done}
use Rattle.plain_yard.proofs.yard.PlainYard.lock.Goals as goal

pub index-seat-requires : goal.index-seat-requires
index-seat-requires c = has_vec c.self.inside c.args.self.now c.self.view_is c.args.thread c.requires.thread

pub index_mut-requires : goal.index_mut-requires
index_mut-requires c = has_vec c.self.inside c.args.self.now c.self.view_is c.args.thread c.requires.thread

pub index_mut-requires-3 : goal.index_mut-requires-3
index_mut-requires-3 c = has_vec c.self.inside c.args.self.now c.self.view_is c.args.thread c.requires.thread

pub index-by-requires : goal.index-by-requires
index-by-requires c = has_lock c.self.inside c.args.self.now c.self.view_is c.self.invariant c.args.thread c.requires.thread c.args.room c.requires.may

pub index_mut-requires-2 : goal.index_mut-requires-2
index_mut-requires-2 c = has_place c.self.inside c.args.self.now c.self.view_is c.self.invariant c.args.thread c.requires.thread c.args.room c.requires.may

pub index_mut-requires-4 : goal.index_mut-requires-4
index_mut-requires-4 c = has_lock c.self.inside c.args.self.now c.self.view_is c.self.invariant c.args.thread c.requires.thread c.args.room c.requires.may

pub unwrap-value-requires : goal.unwrap-value-requires
unwrap-value-requires c = subst (λ (q : Option Room). IsSome q) (sym c.take.ensures.value) (is_some c.self.inside c.args.self.now c.self.view_is c.self.invariant c.args.thread c.requires.thread c.index-seat.result.now (seat_at c.self.inside c.args.self.now c.self.view_is c.args.thread c.requires.thread c.index-seat.result.now c.index-seat.ensures) c.args.room c.requires.may c.index_mut-2.result.now ((word_is c.self.inside.locks c.args.room c.index-by.result.now (has_lock c.self.inside c.args.self.now c.self.view_is c.self.invariant c.args.thread c.requires.thread c.args.room c.requires.may) c.index-by.ensures) ∙ c.if-by-ne0.false) c.index_mut-2.ensures.value)

pub invariant_of-self-2 : goal.invariant_of-self-2
invariant_of-self-2 c = (lock_done c.self.inside c.args.self.now c.self.view_is c.self.invariant c.args.thread c.requires.thread c.index-seat.result.now (seat_at c.self.inside c.args.self.now c.self.view_is c.args.thread c.requires.thread c.index-seat.result.now c.index-seat.ensures) c.args.room c.requires.may ((word_is c.self.inside.locks c.args.room c.index-by.result.now (has_lock c.self.inside c.args.self.now c.self.view_is c.self.invariant c.args.thread c.requires.thread c.args.room c.requires.may) c.index-by.ensures) ∙ c.if-by-ne0.false) c.unwrap-value.result (at_index c.self.inside.rooms.items c.args.room (Some c.unwrap-value.result) (let places = has_place c.self.inside c.args.self.now c.self.view_is c.self.invariant c.args.thread c.requires.thread c.args.room c.requires.may in omega (arith, places, c.self.inside.rooms.ok.0)) (subst (λ (o : Option Room). o ≡ get_or c.self.inside.rooms.items c.args.room o) (sym c.take.ensures.value ∙ c.unwrap-value.ensures) c.index_mut-2.ensures.value)) c.locking.result c.len-before.result (c.len-before.ensures ∙ c.self.inside.log.ok.0) c.locking.ensures (c.from-2.result + 1, c.take.new.self) (λ j. (c.from-2.ensures j + 1, c.take.ensures.after j))).0

pub returns-clause-lawful : goal.returns-clause-lawful
returns-clause-lawful c = (lock_done c.self.inside c.args.self.now c.self.view_is c.self.invariant c.args.thread c.requires.thread c.index-seat.result.now (seat_at c.self.inside c.args.self.now c.self.view_is c.args.thread c.requires.thread c.index-seat.result.now c.index-seat.ensures) c.args.room c.requires.may ((word_is c.self.inside.locks c.args.room c.index-by.result.now (has_lock c.self.inside c.args.self.now c.self.view_is c.self.invariant c.args.thread c.requires.thread c.args.room c.requires.may) c.index-by.ensures) ∙ c.if-by-ne0.false) c.unwrap-value.result (at_index c.self.inside.rooms.items c.args.room (Some c.unwrap-value.result) (let places = has_place c.self.inside c.args.self.now c.self.view_is c.self.invariant c.args.thread c.requires.thread c.args.room c.requires.may in omega (arith, places, c.self.inside.rooms.ok.0)) (subst (λ (o : Option Room). o ≡ get_or c.self.inside.rooms.items c.args.room o) (sym c.take.ensures.value ∙ c.unwrap-value.ensures) c.index_mut-2.ensures.value)) c.locking.result c.len-before.result (c.len-before.ensures ∙ c.self.inside.log.ok.0) c.locking.ensures (c.from-2.result + 1, c.take.new.self) (λ j. (c.from-2.ensures j + 1, c.take.ensures.after j))).0.lawful

pub returns-clause-locked : goal.returns-clause-locked
returns-clause-locked c = (lock_done c.self.inside c.args.self.now c.self.view_is c.self.invariant c.args.thread c.requires.thread c.index-seat.result.now (seat_at c.self.inside c.args.self.now c.self.view_is c.args.thread c.requires.thread c.index-seat.result.now c.index-seat.ensures) c.args.room c.requires.may ((word_is c.self.inside.locks c.args.room c.index-by.result.now (has_lock c.self.inside c.args.self.now c.self.view_is c.self.invariant c.args.thread c.requires.thread c.args.room c.requires.may) c.index-by.ensures) ∙ c.if-by-ne0.false) c.unwrap-value.result (at_index c.self.inside.rooms.items c.args.room (Some c.unwrap-value.result) (let places = has_place c.self.inside c.args.self.now c.self.view_is c.self.invariant c.args.thread c.requires.thread c.args.room c.requires.may in omega (arith, places, c.self.inside.rooms.ok.0)) (subst (λ (o : Option Room). o ≡ get_or c.self.inside.rooms.items c.args.room o) (sym c.take.ensures.value ∙ c.unwrap-value.ensures) c.index_mut-2.ensures.value)) c.locking.result c.len-before.result (c.len-before.ensures ∙ c.self.inside.log.ok.0) c.locking.ensures (c.from-2.result + 1, c.take.new.self) (λ j. (c.from-2.ensures j + 1, c.take.ensures.after j))).1

pub invariant_of-self : goal.invariant_of-self
invariant_of-self c = (held_done c.self.inside c.args.self.now c.self.view_is c.self.invariant c.args.thread c.requires.thread c.index-seat.result.now (seat_at c.self.inside c.args.self.now c.self.view_is c.args.thread c.requires.thread c.index-seat.result.now c.index-seat.ensures) c.args.room c.requires.may c.index-by.result.now (word_is c.self.inside.locks c.args.room c.index-by.result.now (has_lock c.self.inside c.args.self.now c.self.view_is c.self.invariant c.args.thread c.requires.thread c.args.room c.requires.may) c.index-by.ensures) c.if-by-ne0.true c.looking.result (c.looking.ensures ∙ ap (λ (n : ℕ). look_seat (3 + n) c.index-by.result.now c.index-seat.result.now) c.from.ensures)).0

pub returns-then-by-ne0-clause-lawful : goal.returns-then-by-ne0-clause-lawful
returns-then-by-ne0-clause-lawful c = (held_done c.self.inside c.args.self.now c.self.view_is c.self.invariant c.args.thread c.requires.thread c.index-seat.result.now (seat_at c.self.inside c.args.self.now c.self.view_is c.args.thread c.requires.thread c.index-seat.result.now c.index-seat.ensures) c.args.room c.requires.may c.index-by.result.now (word_is c.self.inside.locks c.args.room c.index-by.result.now (has_lock c.self.inside c.args.self.now c.self.view_is c.self.invariant c.args.thread c.requires.thread c.args.room c.requires.may) c.index-by.ensures) c.if-by-ne0.true c.looking.result (c.looking.ensures ∙ ap (λ (n : ℕ). look_seat (3 + n) c.index-by.result.now c.index-seat.result.now) c.from.ensures)).0.lawful

pub returns-then-by-ne0-clause-held : goal.returns-then-by-ne0-clause-held
returns-then-by-ne0-clause-held c = (held_done c.self.inside c.args.self.now c.self.view_is c.self.invariant c.args.thread c.requires.thread c.index-seat.result.now (seat_at c.self.inside c.args.self.now c.self.view_is c.args.thread c.requires.thread c.index-seat.result.now c.index-seat.ensures) c.args.room c.requires.may c.index-by.result.now (word_is c.self.inside.locks c.args.room c.index-by.result.now (has_lock c.self.inside c.args.self.now c.self.view_is c.self.invariant c.args.thread c.requires.thread c.args.room c.requires.may) c.index-by.ensures) c.if-by-ne0.true c.looking.result (c.looking.ensures ∙ ap (λ (n : ℕ). look_seat (3 + n) c.index-by.result.now c.index-seat.result.now) c.from.ensures)).1
