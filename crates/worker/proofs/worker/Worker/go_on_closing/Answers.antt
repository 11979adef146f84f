use Rattle.worker.proofs.Closings.{went, closed_worker}
use Rattle.worker.proofs.worker.Worker.go_on_closing.Goals as goal

pub returns-in-Did-clause-worker : goal.returns-in-Did-clause-worker
returns-in-Did-clause-worker g c = let v = g.P.Post.view c.args.post.now in let t = g.P.Post.told c.args.post.now in let w = g.P.Post.view c.step.new.post in let u = g.P.Post.told c.step.new.post in
    went c.args.self.now c.args.closer v t c.requires.may c.step.new.self w u c.did.new.self c.did.ensures.is c.in-Did.ensures.did c.step.ensures.least c.step.ensures.most

pub returns-in-Released-clause-worker : goal.returns-in-Released-clause-worker
returns-in-Released-clause-worker g c = let v = g.P.Post.view c.args.post.now in let t = g.P.Post.told c.args.post.now in let w = g.P.Post.view c.step.new.post in let u = g.P.Post.told c.step.new.post in
    closed_worker c.args.self.now c.args.closer v t c.requires.may c.step.new.self w u c.in-Released.mark c.in-Released.field-1 c.keep.new.self c.keep.ensures.is c.in-Released.ensures.released
