use Rattle.std.proofs.Common.{rules, arith}
use Rattle.shared_yard.proofs.Owed.{power_allows}
use Rattle.shared_yard.proofs.post.SharedPostPost.powered.Goals as goal

pub load-found-requires : goal.load-found-requires
load-found-requires g c = (search rules, omega (arith, c.args.self.now.yard.now.words), power_allows _ _ _ c.args.self.now.hand.one)
