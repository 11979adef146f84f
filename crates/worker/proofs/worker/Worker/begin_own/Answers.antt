use Rattle.std.proofs.Common.{ap, sym, ◌∙◌, subst}
use Rattle.std.specs.Prelude.{ℕ}
use Rattle.room_in_hand.specs.Working.{MayBeginPoint}
use Rattle.worker_model.specs.Workers.{WorkerState}
use Rattle.worker.proofs.OwnWrites.{may_begin, begin_keeps}
use Rattle.worker.proofs.worker.Worker.begin_own.Goals as goal

pub begin_point-requires : goal.begin_point-requires
begin_point-requires g c = subst (λ (n : ℕ). MayBeginPoint n c.args.room) (sym (ap (λ (s : WorkerState). s.epoch) c.self.view_is)) (may_begin c.args.self.now c.args.room (g.P.Post.view c.args.post.now) c.requires.may)

pub returns-clause-worker : goal.returns-clause-worker
returns-clause-worker g c =
    begin_keeps c.args.self.now c.args.room (g.P.Post.view c.args.post.now) c.requires.may c.begin_point.new.room c.from.result c.end_here-end.result
    (c.from.ensures ∙ ap (λ (s : WorkerState). s.position) c.self.view_is) c.end_here-end.ensures c.begin_point.ensures.five
    (λ k same. c.begin_point.ensures.kept k (same ∙ sym (ap (λ (s : WorkerState). s.epoch) c.self.view_is)))
    _ c.did.new.self c.self.view_is c.did.ensures.is
