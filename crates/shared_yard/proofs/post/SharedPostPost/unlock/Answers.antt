use Rattle.std.proofs.Common.{rules, List, ap, ◌∙◌, arith, Some}
use Rattle.yard_model.specs.declared.view.View.{View}
use Rattle.room_yard.specs.Calls.{MayReturn}
use Rattle.shared_yard.specs.declared.known.Known.{Known}
use Rattle.shared_yard.specs.Rule.{one_known}
use Rattle.shared_yard.proofs.Owed.{unlock_allows}
use Rattle.shared_yard.proofs.Hands.{put_room, after_unlock, own_stays, put_stays, one_put, still, unlocked_home}
use Rattle.shared_yard.proofs.post.SharedPostPost.unlock.Goals as goal

pub swap-requires : goal.swap-requires
swap-requires g c = let hand = c.args.self.now.hand in let stays = put_stays c.args.self.now.seat.me c.exchange.new.seat.me _ c.exchange.ensures.3 in
    let inside = hand.within c.requires.may.0 c.requires.may.2.held in (
      search rules,
      omega (arith, c.args.self.now.yard.now.words, inside, c.requires.may.1),
      unlock_allows _ _ _ (one_put c.args.self.now.seat.me c.exchange.new.seat.me stays hand.one) c.args.room c.args.value
          (still (λ (u : View). MayReturn u c.args.room c.args.value) c.args.self.now.seat.me c.exchange.new.seat.me stays c.requires.may) (put_room _ _ c.args.self.now.seat.me c.exchange.new.seat.me _ _ _ _ hand c.requires.may.0 _ c.args.value c.requires.may.2.held c.requires.may.1 c.exchange.ensures.3),
    )

pub invariant_of-self : goal.invariant_of-self
invariant_of-self g c = let hand = c.args.self.now.hand in let stays = put_stays c.args.self.now.seat.me c.exchange.new.seat.me _ c.exchange.ensures.3 in
    let slot = put_room _ _ c.args.self.now.seat.me c.exchange.new.seat.me _ _ _ _ hand c.requires.may.0 _ c.args.value c.requires.may.2.held c.requires.may.1 c.exchange.ensures.3 in
    let t = c.swap.ensures.2 c.args.room c.args.value slot in
    record { named = search rules; seated = search rules; hand = after_unlock _ _ c.args.self.now.seat.me c.exchange.new.seat.me _ _ _ _ hand c.swap.new.seat.me c.requires.may.0 c.args.room c.args.value t.0 c.requires.may.2.held stays t.1 t.2 }

pub returns-clause-marks : goal.returns-clause-marks
returns-clause-marks g c = let stays = put_stays c.args.self.now.seat.me c.exchange.new.seat.me _ c.exchange.ensures.3 in
    let slot = put_room _ _ c.args.self.now.seat.me c.exchange.new.seat.me _ _ _ _ c.args.self.now.hand c.requires.may.0 _ c.args.value c.requires.may.2.held c.requires.may.1 c.exchange.ensures.3 in
    let t = c.swap.ensures.2 c.args.room c.args.value slot in own_stays _ _ _ _ t.2 ∙ ap (λ (ks : List Known). Some ((one_known ks).own)) stays

pub returns-clause-done : goal.returns-clause-done
returns-clause-done g c = let stays = put_stays c.args.self.now.seat.me c.exchange.new.seat.me _ c.exchange.ensures.3 in
    let slot = put_room _ _ c.args.self.now.seat.me c.exchange.new.seat.me _ _ _ _ c.args.self.now.hand c.requires.may.0 _ c.args.value c.requires.may.2.held c.requires.may.1 c.exchange.ensures.3 in
    let t = c.swap.ensures.2 c.args.room c.args.value slot in unlocked_home c.args.self.now.seat.me c.exchange.new.seat.me c.swap.new.seat.me c.args.room c.args.value t.0 stays t.1 t.2
