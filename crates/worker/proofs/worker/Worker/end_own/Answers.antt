use Rattle.worker.proofs.Homes.{is_with_own_written, own_room, own_returns, own_keeps}
use Rattle.worker.proofs.worker.Worker.end_own.Goals as goal

pub unlock-requires : goal.unlock-requires
unlock-requires g c = record {
  may = own_returns c.args.self.now c.args.room (g.P.Post.view c.args.post.now) (g.P.Post.told c.args.post.now) c.requires.may c.requires.written _ (own_room _ c.args.self.now _ _ c.self.view_is c.sizes.ensures c.thread_room-number.ensures);
}

pub returns-clause-worker : goal.returns-clause-worker
returns-clause-worker g c =
    own_keeps c.args.self.now c.args.room (g.P.Post.view c.args.post.now) (g.P.Post.told c.args.post.now) c.requires.may c.requires.written
    _ (g.P.Post.told c.unlock.new.self) (g.P.Post.view c.unlock.new.self) c.unlock.ensures.done _ (is_with_own_written _ c.args.self.now c.self.view_is c.requires.may.taken)
