use Rattle.std.proofs.Common.{subst, sym}
use Rattle.coordinator.specs.declared.hand.Hand.{Hand}
use Rattle.coordinator.specs.Closers.{with_hand}
use Rattle.coordinator.specs.Steps.{Releases}
use Rattle.coordinator.proofs.Steps.{released, may_release}
use Rattle.coordinator.proofs.closer.Closer.release_epoch.Goals as goal

pub release-mark-requires : goal.release-mark-requires
release-mark-requires g c = record { may = may_release c.args.self.now (record { settings = c.self.inside.settings; learnt = c.self.inside.learnt; hand = c.self.inside.hand }) (g.P.Post.view c.args.post.now) c.self.view_is c.requires.closer c.requires.all_done }

pub returns-clause-step : goal.returns-clause-step
returns-clause-step g c = let v = (g.P.Post.view c.args.post.now) in let t = g.P.Post.told c.args.post.now in let u = g.P.Post.told c.release-mark.new.post in let w = g.P.Post.view c.release-mark.new.post in
    subst (λ (h : Hand). Releases c.args.self.now v t c.release-mark.result c.self.inside.learnt.verdict (with_hand (record { settings = c.self.inside.settings; learnt = c.self.inside.learnt; hand = c.self.inside.hand }) h) w u) (sym c.end_hand.ensures)
    (released c.args.self.now (record { settings = c.self.inside.settings; learnt = c.self.inside.learnt; hand = c.self.inside.hand }) v c.self.view_is c.requires.closer c.requires.all_done t u w c.release-mark.result c.release-mark.ensures.ended)
