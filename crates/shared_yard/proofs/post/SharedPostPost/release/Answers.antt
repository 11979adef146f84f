use Rattle.std.proofs.Common.{rules, ℕ, ◌+◌, List, ap, ◌∙◌, arith}
use Rattle.yard_model.specs.Views.{released}
use Rattle.shared_yard.specs.declared.known.Known.{Known}
use Rattle.shared_yard.specs.Rule.{one_view}
use Rattle.yard_model.specs.declared.view.Beginning.{Beginning}
use Rattle.shared_yard.proofs.Owed.{note_allows, release_allows}
use Rattle.shared_yard.proofs.Hands.{after_note, after_release, may_release_noted, word_is, own_grows}
use Rattle.shared_yard.proofs.post.SharedPostPost.release.Goals as goal

pub load-length-requires : goal.load-length-requires
load-length-requires g c = (search rules, omega (arith, c.args.self.now.yard.now.words), note_allows _ _ _ c.args.self.now.hand.one c.requires.may.note)

pub swap-requires : goal.swap-requires
swap-requires g c = let hand = c.args.self.now.hand in let saw = c.load-length.ensures.2.now in let later = after_note _ _ _ _ _ _ _ _ hand _ saw in (
  search rules,
  omega (arith, c.args.self.now.yard.now.words),
  release_allows _ _ _ later.one c.args.over c.args.fed c.load-length.result c.word_of_epoch-word.result (may_release_noted _ _ _ _ _ _ _ _ hand _ saw _ _ c.requires.may)
      (word_is _ _ _ _ _ _ _ _ hand _ saw _ _ _ c.word_of_epoch-word.ensures) (omega (arith, ap (λ (b : Beginning). b.settings.threads) later.begins, later.few_threads)) (omega (arith, later.ran_is, hand.ran_is, c.load-length.ensures.2.early)),
)

pub invariant_of-self : goal.invariant_of-self
invariant_of-self g c = let hand = c.args.self.now.hand in let saw = c.load-length.ensures.2.now in let later = after_note _ _ _ _ _ _ _ _ hand _ saw in
    let t = c.swap.ensures.2 c.load-length.result (ap (λ (ks : List Known). (one_view ks).closed.entries) saw.view) in
    record { named = search rules; seated = search rules; hand = after_release _ _ _ _ _ _ _ _ later _ _ t.0 t.1 }

pub returns-clause-marks : goal.returns-clause-marks
returns-clause-marks g c = let saw = c.load-length.ensures.2.now in let t = c.swap.ensures.2 c.load-length.result (ap (λ (ks : List Known). (one_view ks).closed.entries) saw.view) in
    own_grows _ _ _ _ _ _ _ _ c.args.self.now.hand _ saw c.swap.new.seat.me _ c.args.fed _ c.word_of_epoch-word.ensures c.load-length.ensures.2.early t.0

pub returns-clause-done : goal.returns-clause-done
returns-clause-done g c = let saw = c.load-length.ensures.2.now in let t = c.swap.ensures.2 c.load-length.result (ap (λ (ks : List Known). (one_view ks).closed.entries) saw.view) in
    record { epoch = ap (λ (n : ℕ). n + 1) c.args.self.now.hand.ran_is; view = ap one_view t.0 ∙ ap (λ (ks : List Known). released (one_view ks)) saw.view; world = tt }
