use Rattle.worker.proofs.Commanding.{may_store, stored_keeps}
use Rattle.worker.proofs.worker.Worker.store.Goals as goal

pub make_store-requires-clause-may : goal.make_store-requires-clause-may
make_store-requires-clause-may g c = may_store c.args.self.now c.args.reply c.args.room (g.P.Post.view c.args.post.now) (g.P.Post.told c.args.post.now) c.requires.may

pub returns-clause-worker : goal.returns-clause-worker
returns-clause-worker g c = let e = c.make_store.ensures in
    stored_keeps c.args.self.now c.args.reply c.args.room (g.P.Post.view c.args.post.now) (g.P.Post.told c.args.post.now) c.requires.may c.make_store.new.room c.did.new.self e.is e.fewer e.kept c.did.ensures.is
