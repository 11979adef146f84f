use Rattle.std.proofs.Common.{rules, ℕ, ◌+◌, List, ◌∷◌, sym, refl, ap, ◌∙◌, arith, Option, Some, None}
use Rattle.atomic_table.specs.Table.{rest}
use Rattle.rooms.specs.declared.room.Room.{Room}
use Rattle.yard_model.specs.declared.view.View.{View}
use Rattle.room_yard.specs.Answers.{LockIsHeld}
use Rattle.shared_yard.specs.Rule.{one_view}
use Rattle.shared_yard.proofs.Owed.{lock_allows}
use Rattle.shared_yard.proofs.Hands.{count_is, taken_is, after_lock, after_held, answered, own_stays, took}
use Rattle.shared_yard.proofs.post.SharedPostPost.lock.Goals as goal

pub compare_exchange-found-requires : goal.compare_exchange-found-requires
compare_exchange-found-requires g c = let hand = c.args.self.now.hand in
    (search rules, omega (arith, c.args.self.now.yard.now.words, count_is _ _ c.args.self.now.seat.me c.args.self.now.seat.me _ _ _ _ hand, c.requires.may.within), lock_allows _ _ _ hand.one _ _ (ap (λ (n : ℕ). n + 1) (c.from.ensures ∙ hand.thread_is)) c.requires.may)

pub invariant_of-self : goal.invariant_of-self
invariant_of-self g c = record { named = search rules; seated = search rules; hand = after_held _ _ _ _ _ _ _ _ c.args.self.now.hand _ _ ((c.compare_exchange-found.ensures.2 c.args.room refl).1 c.if-found-ne0.true) }

pub returns-then-found-ne0-clause-marks : goal.returns-then-found-ne0-clause-marks
returns-then-found-ne0-clause-marks g c = own_stays _ _ _ _ ((c.compare_exchange-found.ensures.2 c.args.room refl).1 c.if-found-ne0.true).now

pub returns-then-found-ne0-clause-held : goal.returns-then-found-ne0-clause-held
returns-then-found-ne0-clause-held g c = let saw = (c.compare_exchange-found.ensures.2 c.args.room refl).1 c.if-found-ne0.true in answered (λ (u : View). LockIsHeld (one_view c.args.self.now.seat.me.0) None c.args.room (record { by = c.compare_exchange-found.result }) u None) _ _ _ _ saw.now saw.answer

pub exchange-requires : goal.exchange-requires
exchange-requires g c = let t = (c.compare_exchange-found.ensures.2 c.args.room refl).0 c.if-found-ne0.false in (search rules, (Some t.room, t.now.slots_are ∙ ap (λ (l : List (ℕ × Option Room)). (c.args.room, Some t.room) ∷ rest l) (sym t.now.slots_are)))

pub unwrap-value-requires : goal.unwrap-value-requires
unwrap-value-requires g c = let t = (c.compare_exchange-found.ensures.2 c.args.room refl).0 c.if-found-ne0.false in let e = taken_is _ _ _ _ t c.exchange.ensures.2 in rw e refl

pub invariant_of-self-2 : goal.invariant_of-self-2
invariant_of-self-2 g c = let hand = c.args.self.now.hand in record {
  named = search rules;
  seated = search rules;
  hand = after_lock _ _ _ _ _ _ _ _ hand _ _ c.requires.may.nothing_held (omega (arith, count_is _ _ c.args.self.now.seat.me c.args.self.now.seat.me _ _ _ _ hand, c.requires.may.within)) ((c.compare_exchange-found.ensures.2 c.args.room refl).0 c.if-found-ne0.false) c.exchange.ensures.3;
}

pub returns-clause-marks : goal.returns-clause-marks
returns-clause-marks g c = let t = (c.compare_exchange-found.ensures.2 c.args.room refl).0 c.if-found-ne0.false in (took _ _ _ _ c.unwrap-value.result _ t (sym (taken_is _ _ _ _ t c.exchange.ensures.2) ∙ c.unwrap-value.ensures) c.exchange.ensures.3).1

pub returns-clause-locked : goal.returns-clause-locked
returns-clause-locked g c = let t = (c.compare_exchange-found.ensures.2 c.args.room refl).0 c.if-found-ne0.false in (took _ _ _ _ c.unwrap-value.result _ t (sym (taken_is _ _ _ _ t c.exchange.ensures.2) ∙ c.unwrap-value.ensures) c.exchange.ensures.3).0
