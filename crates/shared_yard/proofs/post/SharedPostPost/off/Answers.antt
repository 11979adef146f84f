use Rattle.std.proofs.Common.{rules, arith}
use Rattle.shared_yard.proofs.Owed.{off_allows}
use Rattle.shared_yard.proofs.post.SharedPostPost.off.Goals as goal

pub fetch_max-requires : goal.fetch_max-requires
fetch_max-requires g c = (search rules, omega (arith, c.args.self.now.yard.now.words), off_allows _ _ _ c.args.self.now.hand.one)
