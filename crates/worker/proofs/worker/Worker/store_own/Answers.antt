use Rattle.worker.proofs.OwnWrites.{may_store, store_keeps}
use Rattle.worker.proofs.worker.Worker.store_own.Goals as goal

pub make_store-requires-clause-may : goal.make_store-requires-clause-may
make_store-requires-clause-may g c = may_store c.args.self.now c.args.room (g.P.Post.view c.args.post.now) (g.P.Post.told c.args.post.now) c.requires.may

pub returns-clause-worker : goal.returns-clause-worker
returns-clause-worker g c =
    store_keeps c.args.self.now c.args.room (g.P.Post.view c.args.post.now) (g.P.Post.told c.args.post.now) c.requires.may c.make_store.new.room c.make_store.ensures.fewer c.make_store.ensures.point_kept c.did.new.self c.did.ensures.is
