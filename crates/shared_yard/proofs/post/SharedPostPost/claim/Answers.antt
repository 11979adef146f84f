use Rattle.std.proofs.Common.{rules, refl, arith}
use Rattle.shared_yard.proofs.Owed.{look_allows, claim_allows}
use Rattle.shared_yard.proofs.Hands.{after_look, may_claim_seen, claim_rests}
use Rattle.shared_yard.proofs.post.SharedPostPost.claim.Goals as goal

pub load-found-requires : goal.load-found-requires
load-found-requires g c = (search rules, omega (arith, c.args.self.now.yard.now.words), look_allows _ _ _ c.args.self.now.hand.one _)

pub returns-then-not-allows_claim-clause-rests : goal.returns-then-not-allows_claim-clause-rests
returns-then-not-allows_claim-clause-rests g c = claim_rests _ _ _ _ _ _ _ _ c.args.self.now.hand _ c.load-found.ensures.2 c.requires.may (search (rules, c.allows_claim.ensures, c.if-not-allows_claim.true))

pub compare_exchange-met-requires : goal.compare_exchange-met-requires
compare_exchange-met-requires g c = let hand = c.args.self.now.hand in let saw = c.load-found.ensures.2 in let later = after_look _ _ _ _ _ _ _ _ hand _ _ saw in
    (search rules, omega (arith, c.args.self.now.yard.now.words), claim_allows _ _ _ later.one _ _ (may_claim_seen _ _ _ _ _ _ _ _ hand _ saw c.requires.may (search (rules, c.allows_claim.ensures, c.if-not-allows_claim.false))) refl)
