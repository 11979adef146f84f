use Rattle.std.proofs.Common.{refl, sym, ap, ◌∙◌}
use Rattle.plain_yard.proofs.Fields.{has_vec, seat_at}
use Rattle.plain_yard.specs.Seats.{close_seat}
use Rattle.yard_model.specs.Steps.{with_bit}
use Rattle.plain_yard.proofs.Quiet.{claim_done, claim_rests, no}
use Rattle.plain_yard.proofs.yard.PlainYard.claim.Goals as goal

pub index-seat-requires : goal.index-seat-requires
index-seat-requires c = has_vec c.self.inside c.args.self.now c.self.view_is c.args.thread c.requires.thread

pub index_mut-requires : goal.index_mut-requires
index_mut-requires c = has_vec c.self.inside c.args.self.now c.self.view_is c.args.thread c.requires.thread

pub index_mut-requires-else-allows_claim : goal.index_mut-requires-else-allows_claim
index_mut-requires-else-allows_claim c = has_vec c.self.inside c.args.self.now c.self.view_is c.args.thread c.requires.thread

pub invariant_of-self : goal.invariant_of-self
invariant_of-self c = (claim_done c.self.inside c.args.self.now c.self.view_is c.self.invariant c.args.thread c.requires.thread c.index-seat.result.now (seat_at c.self.inside c.args.self.now c.self.view_is c.args.thread c.requires.thread c.index-seat.result.now c.index-seat.ensures) c.closing.result (c.self.inside.tick, with_bit c.self.inside.arrival 16) c.requires.may (c.allows_claim.ensures.0 c.if-allows_claim.true) (c.closing.ensures ∙ ap close_seat c.looking-looked.ensures) refl).0

pub returns-then-allows_claim-clause-lawful : goal.returns-then-allows_claim-clause-lawful
returns-then-allows_claim-clause-lawful c = (claim_done c.self.inside c.args.self.now c.self.view_is c.self.invariant c.args.thread c.requires.thread c.index-seat.result.now (seat_at c.self.inside c.args.self.now c.self.view_is c.args.thread c.requires.thread c.index-seat.result.now c.index-seat.ensures) c.closing.result (c.self.inside.tick, with_bit c.self.inside.arrival 16) c.requires.may (c.allows_claim.ensures.0 c.if-allows_claim.true) (c.closing.ensures ∙ ap close_seat c.looking-looked.ensures) refl).0.lawful

pub returns-then-allows_claim-clause-claimed : goal.returns-then-allows_claim-clause-claimed
returns-then-allows_claim-clause-claimed c = (claim_done c.self.inside c.args.self.now c.self.view_is c.self.invariant c.args.thread c.requires.thread c.index-seat.result.now (seat_at c.self.inside c.args.self.now c.self.view_is c.args.thread c.requires.thread c.index-seat.result.now c.index-seat.ensures) c.closing.result (c.self.inside.tick, with_bit c.self.inside.arrival 16) c.requires.may (c.allows_claim.ensures.0 c.if-allows_claim.true) (c.closing.ensures ∙ ap close_seat c.looking-looked.ensures) refl).1

pub invariant_of-self-else-allows_claim : goal.invariant_of-self-else-allows_claim
invariant_of-self-else-allows_claim c = (claim_rests c.self.inside c.args.self.now c.self.view_is c.self.invariant c.args.thread c.requires.thread c.index-seat.result.now (seat_at c.self.inside c.args.self.now c.self.view_is c.args.thread c.requires.thread c.index-seat.result.now c.index-seat.ensures) c.looking-looked.result (c.self.inside.tick, c.self.inside.arrival) c.requires.may (λ m. no (sym (c.allows_claim.ensures.1 m) ∙ c.if-allows_claim.false)) c.looking-looked.ensures refl).0

pub returns-else-allows_claim-clause-lawful : goal.returns-else-allows_claim-clause-lawful
returns-else-allows_claim-clause-lawful c = (claim_rests c.self.inside c.args.self.now c.self.view_is c.self.invariant c.args.thread c.requires.thread c.index-seat.result.now (seat_at c.self.inside c.args.self.now c.self.view_is c.args.thread c.requires.thread c.index-seat.result.now c.index-seat.ensures) c.looking-looked.result (c.self.inside.tick, c.self.inside.arrival) c.requires.may (λ m. no (sym (c.allows_claim.ensures.1 m) ∙ c.if-allows_claim.false)) c.looking-looked.ensures refl).0.lawful

pub returns-else-allows_claim-clause-rests : goal.returns-else-allows_claim-clause-rests
returns-else-allows_claim-clause-rests c = (claim_rests c.self.inside c.args.self.now c.self.view_is c.self.invariant c.args.thread c.requires.thread c.index-seat.result.now (seat_at c.self.inside c.args.self.now c.self.view_is c.args.thread c.requires.thread c.index-seat.result.now c.index-seat.ensures) c.looking-looked.result (c.self.inside.tick, c.self.inside.arrival) c.requires.may (λ m. no (sym (c.allows_claim.ensures.1 m) ∙ c.if-allows_claim.false)) c.looking-looked.ensures refl).1
