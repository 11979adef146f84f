use Rattle.std.proofs.Common.{rules, ℕ, ◌^◌, ◌<◌, ap, ◌∙◌, arith}
use Rattle.std.proofs.lemmas.Nat.{one_shl}
use Rattle.shared_yard.proofs.Owed.{stand_allows}
use Rattle.shared_yard.proofs.Hands.{none_if, none_held}
use Rattle.shared_yard.proofs.post.SharedPostPost.stand.Goals as goal

pub fetch_or-requires : goal.fetch_or-requires
fetch_or-requires g c = let hand = c.args.self.now.hand in let few = hand.few_threads in let is = hand.is_thread in let lt : c.args.self.now.thread < 64 = omega (arith, few, is) in
    (search rules, omega (arith, c.args.self.now.yard.now.words), stand_allows _ _ _ hand.one _ c.requires.may (none_held _ _ hand.room_is (none_if _ c.in_default.not-Some)) (one_shl c.args.self.now.thread 64 lt ∙ ap (λ (n : ℕ). 2 ^ n) hand.thread_is))
