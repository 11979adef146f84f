use Rattle.std.proofs.Common.{ap}
use Rattle.worker_model.specs.Workers.{WorkerState}
use Rattle.worker.proofs.Homes.{is_with_none_found, take_returns, take_keeps}
use Rattle.worker.proofs.worker.Worker.end_take.Goals as goal

pub unlock-requires : goal.unlock-requires
unlock-requires g c = record { may = take_returns c.args.self.now c.args.room (g.P.Post.view c.args.post.now) (g.P.Post.told c.args.post.now) c.requires.may _ (ap (λ (s : WorkerState). s.settings.shards) c.self.view_is) }

pub returns-clause-worker : goal.returns-clause-worker
returns-clause-worker g c =
    take_keeps c.args.self.now c.args.room (g.P.Post.view c.args.post.now) (g.P.Post.told c.args.post.now) c.requires.may
    _ (g.P.Post.told c.unlock.new.self) (g.P.Post.view c.unlock.new.self) c.unlock.ensures.done _ (is_with_none_found _ c.args.self.now c.self.view_is c.requires.may.taken)
