use Rattle.plain_yard.proofs.Told.{told_from}
use Rattle.plain_yard.proofs.post.PlainPostPost.holds.Goals as goal

pub returns-clause-told : goal.returns-clause-told
returns-clause-told c = told_from c.self.inside.yard c.self.inside.thread c.args.self.now c.self.view_is c.self.invariant
