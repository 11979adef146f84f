use Rattle.coordinator.proofs.Steps.{again, event, did, put_back}
use Rattle.coordinator.proofs.closer.Closer.go_on.Goals as goal

pub next-requires : goal.next-requires
next-requires g c = record { closer = again c.args.self.now (record { settings = c.self.inside.settings; learnt = c.self.inside.learnt; hand = c.self.inside.hand }) c.self.view_is c.replace-hand.result c.replace-hand.ensures.value (g.P.Post.view c.args.post.now) c.requires.closer; event = event c.args.self.now (record { settings = c.self.inside.settings; learnt = c.self.inside.learnt; hand = c.self.inside.hand }) c.self.view_is c.replace-hand.result c.replace-hand.ensures.value c.requires.event }

pub returns-clause-step : goal.returns-clause-step
returns-clause-step g c = let v = (g.P.Post.view c.args.post.now) in let t = g.P.Post.told c.args.post.now in let u = g.P.Post.told c.next.new.post in let w = g.P.Post.view c.next.new.post in
    put_back c.args.self.now c.next.result (record { settings = c.hand.inside.settings; learnt = c.hand.inside.learnt; hand = c.hand.inside.hand }) c.put_in.new.slot v w t u c.hand.view_is c.put_in.ensures
    (did c.args.self.now (record { settings = c.self.inside.settings; learnt = c.self.inside.learnt; hand = c.self.inside.hand }) c.self.view_is c.replace-hand.result c.replace-hand.ensures.value v w t u c.next.result c.next.ensures.did)
