use Rattle.std.proofs.Common.{◌≡◌, true, false, sym, ap, ◌∙◌}
use Rattle.std.specs.Prelude.{◌≢◌}
use denote.Enum.Bare.{sameb}
use Rattle.restart_point.specs.contracts.thread_end.ThreadEnd.{the_type}
use Rattle.restart_point.specs.declared.thread_end.ThreadEnd.{ThreadEnd}
use Rattle.restart_point.specs.declared.thread_end.ThreadEnd.TheVariants.{Ended}
use Rattle.worker_model.specs.Workers.{WorkerState}
use Rattle.worker.proofs.Standings.{leave_looks, can_rest, may_again, has_left, goes_claiming}
use Rattle.worker.proofs.worker.Worker.go_on_standing.Goals as goal

pub claim-requires-in-Err-2-clause-may : goal.claim-requires-in-Err-2-clause-may
claim-requires-in-Err-2-clause-may g c = let v = g.P.Post.view c.args.post.now in let t = g.P.Post.told c.args.post.now in let w = g.P.Post.view c.leave.new.self in let u = g.P.Post.told c.leave.new.self in
    may_again c.args.self.now v t c.requires.may c.requires.phase w u (leave_looks v w t u _ c.in-Err.rest c.in-Err.ensures.rests) c.leave.ensures.told

pub returns-in-Ok-clause-worker : goal.returns-in-Ok-clause-worker
returns-in-Ok-clause-worker g c = let v = g.P.Post.view c.args.post.now in let t = g.P.Post.told c.args.post.now in let w = g.P.Post.view c.leave.new.self in let u = g.P.Post.told c.leave.new.self in
    has_left c.args.self.now v t c.requires.may c.requires.phase c.left.new.self _ c.in-Ok.epoch w u c.left.ensures.is c.in-Ok.ensures.left

pub returns-in-Err-clause-worker : goal.returns-in-Err-clause-worker
returns-in-Err-clause-worker g c = let v = g.P.Post.view c.args.post.now in let t = g.P.Post.told c.args.post.now in let w = g.P.Post.view c.leave.new.self in let u = g.P.Post.told c.leave.new.self in
    can_rest c.args.self.now v t c.requires.may c.requires.phase w (leave_looks v w t u _ c.in-Err.rest c.in-Err.ensures.rests)

pub returns-in-Err-2-clause-turn : goal.returns-in-Err-2-clause-turn
returns-in-Err-2-clause-turn g c =
    let apart : c.self.inside.end ≢ Ended = λ e. let h : false ≡ true = sym c.if-eq.false ∙ c.eq.ensures ∙ ap (λ (k : ThreadEnd). sameb the_type k Ended) e in cc in
    goes_claiming c.args.self.now _ _ _ _ _ _ c.self.inside.end (ap (λ (x : WorkerState). x.end) c.self.view_is) apart c.in-Err.rest _ _ c.in-Err.ensures.rests (sym c.shows_over.ensures ∙ c.if-shows_over.false) c.claim-in-Err-2.ensures.turn
