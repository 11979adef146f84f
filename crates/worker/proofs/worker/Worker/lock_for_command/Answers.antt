use Rattle.worker.proofs.Beginnings.{lock_may, lock_worker, lock_turn, lock_marks}
use Rattle.worker.proofs.worker.Worker.lock_for_command.Goals as goal

pub begin_at-begun-requires : goal.begin_at-begun-requires
begin_at-begun-requires g c = record {
  may = lock_may c.args.self.now _ c.self.view_is (g.P.Post.view c.args.post.now) (g.P.Post.told c.args.post.now) c.requires.may c.requires.phase c.requires.some
      c.index.result.now c.index.ensures c.route-number.result c.route-number.ensures;
}

pub returns-clause-marks : goal.returns-clause-marks
returns-clause-marks g c = lock_marks c.args.self.now _ c.self.view_is (g.P.Post.view c.args.post.now) (g.P.Post.told c.args.post.now) c.requires.may c.requires.phase c.requires.some
    c.index.result.now c.index.ensures c.route-number.result c.route-number.ensures c.pass.new.self c.pass.ensures c.begin_at-begun.result c.take.result c.take.new.self
    (g.P.Post.view c.begin_at-begun.new.post) (g.P.Post.told c.begin_at-begun.new.post) c.begin_at-begun.ensures.begun c.take.ensures
    (g.P.Post.own_marks c.args.post.now) (g.P.Post.own_marks c.begin_at-begun.new.post) c.begin_at-begun.ensures.marks

pub returns-clause-worker : goal.returns-clause-worker
returns-clause-worker g c = lock_worker c.args.self.now _ c.self.view_is (g.P.Post.view c.args.post.now) (g.P.Post.told c.args.post.now) c.requires.may c.requires.phase c.requires.some
    c.index.result.now c.index.ensures c.route-number.result c.route-number.ensures c.pass.new.self c.pass.ensures c.begin_at-begun.result c.take.result c.take.new.self
    (g.P.Post.view c.begin_at-begun.new.post) (g.P.Post.told c.begin_at-begun.new.post) c.begin_at-begun.ensures.begun c.take.ensures

pub returns-clause-turn : goal.returns-clause-turn
returns-clause-turn g c = lock_turn c.args.self.now _ c.self.view_is (g.P.Post.view c.args.post.now) (g.P.Post.told c.args.post.now) c.requires.may c.requires.phase c.requires.some
    c.index.result.now c.index.ensures c.route-number.result c.route-number.ensures c.pass.new.self c.pass.ensures c.begin_at-begun.result c.take.result c.take.new.self
    (g.P.Post.view c.begin_at-begun.new.post) (g.P.Post.told c.begin_at-begun.new.post) c.begin_at-begun.ensures.begun c.take.ensures
