use Rattle.std.proofs.Common.{rules, arith}
use Rattle.shared_yard.proofs.Owed.{tick_allows}
use Rattle.shared_yard.proofs.post.SharedPostPost.tick.Goals as goal

pub fetch_add-requires : goal.fetch_add-requires
fetch_add-requires g c = (search rules, omega (arith, c.args.self.now.yard.now.words), tick_allows _ _ _ c.args.self.now.hand.one c.requires.may)
