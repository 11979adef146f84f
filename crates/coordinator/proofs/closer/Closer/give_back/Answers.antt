use Rattle.std.proofs.Common.{rules, subst, sym}
use Rattle.coordinator.specs.Closers.{CloserState, MayGiveBack}
use Rattle.coordinator.proofs.Given.{may_give_hand}
use Rattle.coordinator.proofs.closer.Closer.give_back.Goals as goal

pub give_up-requires : goal.give_up-requires
give_up-requires g c = record { may = may_give_hand (record { settings = c.self.inside.settings; learnt = c.self.inside.learnt; hand = c.self.inside.hand }) (g.P.Post.view c.args.post.now) (subst (λ (k : CloserState). MayGiveBack k (g.P.Post.view c.args.post.now)) (sym c.self.view_is) c.requires.closer) c.replace-hand.result (search rules) }
