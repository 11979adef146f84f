use Rattle.worker.proofs.Standings.{claim_looks, can_rest}
use Rattle.worker.proofs.worker.Worker.claim_with_room.Goals as goal

pub returns-in-Err-clause-worker : goal.returns-in-Err-clause-worker
returns-in-Err-clause-worker g c = let v = g.P.Post.view c.args.post.now in let t = g.P.Post.told c.args.post.now in let w = g.P.Post.view c.claim.new.self in let u = g.P.Post.told c.claim.new.self in
    can_rest c.args.self.now v t c.requires.may c.requires.phase w (claim_looks v w t u c.in-Err.rest c.in-Err.ensures.rests)

pub returns-in-Err-2-clause-worker : goal.returns-in-Err-2-clause-worker
returns-in-Err-2-clause-worker g c = let v = g.P.Post.view c.args.post.now in let t = g.P.Post.told c.args.post.now in let w = g.P.Post.view c.claim.new.self in let u = g.P.Post.told c.claim.new.self in
    can_rest c.args.self.now v t c.requires.may c.requires.phase w (claim_looks v w t u c.in-Err.rest c.in-Err.ensures.rests)
