use Rattle.worker.proofs.Homes.{is_carried_out, drawn_returns, drawn_keeps}
use Rattle.worker.proofs.worker.Worker.end_command.Goals as goal

pub unlock-requires : goal.unlock-requires
unlock-requires g c = record {
  may = drawn_returns c.args.self.now c.args.room (g.P.Post.view c.args.post.now) (g.P.Post.told c.args.post.now) c.requires.may c.in-Some.number c.holds.result c.holds.ensures.is c.in-Some.is;
}

pub returns-clause-worker : goal.returns-clause-worker
returns-clause-worker g c =
    drawn_keeps c.args.self.now c.args.room (g.P.Post.view c.args.post.now) (g.P.Post.told c.args.post.now) c.requires.may
    _ (g.P.Post.told c.unlock.new.self) (g.P.Post.view c.unlock.new.self) c.unlock.ensures.done _ (is_carried_out _ c.args.self.now c.self.view_is c.requires.may.taken)
