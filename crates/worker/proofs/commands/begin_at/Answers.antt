use Rattle.worker.proofs.Beginnings.{may_begin_in, begins_at}
use Rattle.worker.proofs.commands.begin_at.Goals as goal

pub begin_in-requires : goal.begin_in-requires
begin_in-requires g c = record {
  may = may_begin_in c.args.number c.args.epoch c.args.command (g.P.Post.view c.args.post.now) c.requires.may c.in-Ok.room (g.P.Post.told c.args.post.now) (g.P.Post.told c.lock.new.self) (g.P.Post.view c.lock.new.self) c.in-Ok.ensures.locked c.of_its_type.ensures;
  told = c.lock.ensures.told;
}

pub returns-in-Ok-clause-begun : goal.returns-in-Ok-clause-begun
returns-in-Ok-clause-begun g c = begins_at c.args.number c.args.epoch c.args.command (g.P.Post.view c.args.post.now) c.requires.may c.in-Ok.room (g.P.Post.told c.args.post.now) (g.P.Post.told c.lock.new.self) (g.P.Post.view c.lock.new.self) c.in-Ok.ensures.locked c.of_its_type.ensures
    c.begin_in.result (g.P.Post.view c.begin_in.new.post) (g.P.Post.told c.begin_in.new.post) c.begin_in.ensures.begun
