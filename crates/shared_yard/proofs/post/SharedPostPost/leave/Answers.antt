use Rattle.std.proofs.Common.{rules, ℕ, ◌-◌, ◌^◌, ◌<◌, ap, ◌∙◌, arith, bit_and}
use Rattle.std.proofs.lemmas.Nat.{one_shl}
use Rattle.yard_model.specs.Steps.{without_bit}
use Rattle.shared_yard.proofs.Owed.{look_allows, leave_allows}
use Rattle.shared_yard.proofs.Hands.{after_look, may_leave_seen}
use Rattle.shared_yard.proofs.post.SharedPostPost.leave.Goals as goal

pub load-found-requires : goal.load-found-requires
load-found-requires g c = (search rules, omega (arith, c.args.self.now.yard.now.words), look_allows _ _ _ c.args.self.now.hand.one _)

pub compare_exchange-met-requires : goal.compare_exchange-met-requires
compare_exchange-met-requires g c = let hand = c.args.self.now.hand in let saw = c.load-found.ensures.2 in let later = after_look _ _ _ _ _ _ _ _ hand _ _ saw in let few = hand.few_threads in let is = hand.is_thread in let lt : c.args.self.now.thread < 64 = omega (arith, few, is) in (
  search rules,
  omega (arith, c.args.self.now.yard.now.words),
  leave_allows _ _ _ later.one c.args.end _ _ (may_leave_seen _ _ _ _ _ _ _ _ hand _ saw c.args.end c.requires.may (search (rules, c.allows_leave.ensures, c.if-not-allows_leave.false)))
      (ap (λ (b : ℕ). bit_and c.load-found.result (2 ^ 64 - 1 - b)) (one_shl c.args.self.now.thread 64 lt) ∙ ap (without_bit c.load-found.result) later.thread_is),
)
