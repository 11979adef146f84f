use Rattle.std.proofs.Common.{◌≡◌, ℕ, ◌+◌, ◌<◌, length, List, refl, sym, ap, ◌∙◌, subst, arith}
use Rattle.std.specs.Prelude.{nat_lt, slice_index}
use Rattle.std.specs.Global.{Vec}
use Rattle.seq_object.specs.declared.command.Command.{Command}
use Rattle.seq_object.specs.History.{Scripts}
use Rattle.life_model.specs.Life.{Opening, script_of, opening_place}
use Rattle.worker_model.specs.Workers.{WorkerState}
use Rattle.script_run.specs.Starts.{AreFirstWorkers}
use Rattle.script_run.proofs.Openings.{one_worker_more, begins_ready, script_at}
use Rattle.script_run.proofs.opening.first_workers.Goals as goal

pub loop-thread-preserved : goal.loop-thread-preserved
loop-thread-preserved c =
    let thread = c.loop-thread.thread in
    let within : thread < length c.args.scripts.now = omega (arith, c.loop-thread-test.true, c.requires.scripts) in
    λ o at.
    subst (λ (workers : List WorkerState). AreFirstWorkers o (thread + 1) workers) (sym {A = List WorkerState} c.in_ok-push.ensures.items)
    (one_worker_more o thread (thread + 1) c.loop-thread.workers.items c.in_ok-new.field-0 refl (c.loop-thread.invariant o at)
    (λ b is. c.in_ok-new.ensures.begins b (ap (λ (a : Opening). a.settings) is ∙ at.settings_are)
    (ap (λ (a : Opening). script_of a.scripts thread) is ∙ ap (λ (ss : Scripts). script_of ss thread) at.scripts_are
    ∙ script_at c.args.scripts.now thread c.index-scripts-thread.result within
    ∙ ap (λ (s : Vec Command). s.items) (sym c.index-scripts-thread.is) ∙ sym c.deref.ensures.value)
    (ap (λ (a : Opening). opening_place a thread) is ∙ at.places_are thread c.loop-thread-test.true))
    (begins_ready (nat_lt (slice_index c.args.places.now thread) (length c.deref.result.now)) c.in_ok-new.field-0.end c.in_ok-new.ensures.end))

pub returns : goal.returns
returns c =
    let all : c.loop-thread.thread ≡ c.args.settings.threads = omega (arith, c.loop-thread-test.false, c.loop-thread.auto.thread-end) in
    λ o at. subst (λ (n : ℕ). AreFirstWorkers o n c.loop-thread.workers.items) all (c.loop-thread.invariant o at)
