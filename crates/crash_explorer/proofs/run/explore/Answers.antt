use Rattle.std.proofs.Common.{sym, ◌∙◌, subst}
use Rattle.crash_explorer.specs.declared.verdict.CutVerdict.{CutVerdict}
use Rattle.crash_explorer.specs.declared.verdict.CutVerdict.TheVariants.{Clean as AreCleanAll}
use Rattle.crash_explorer.specs.Cut.{bare}
use Rattle.crash_explorer.specs.Verdicts.{IsCutVerdict}
use Rattle.crash_explorer.proofs.Running.{run-more}
use Rattle.crash_explorer.proofs.run.explore.Goals as goal

pub loop-event-preserved : goal.loop-event-preserved
loop-event-preserved g c =
    let plan = c.args.plan.now in
    let cut = g.S.Subject.cut in
    let now = c.step.new.self in
    let lines = bare c.bank-in-loop-event.result.now.lines in
    let verdict : IsCutVerdict plan (cut now) plan.depth lines (AreCleanAll c.in-Clean.more) = subst (λ (v : CutVerdict). IsCutVerdict plan (cut now) plan.depth lines v) c.in-Clean.is c.in_ok-verdict.ensures in
    run-more plan cut g.S.Subject.next g.S.Subject.goes_on g.W.Watcher.tells c.args.subject.now c.args.watcher.now c.loop-event.event c.loop-event.subject now c.loop-event.watcher c.tell.new.self
    c.loop-event.effort c.in-Clean.more c.and-effort.result lines c.loop-event.invariant (sym c.in_ok-step.ensures.went ∙ c.if-not-branch.false) (c.in_ok-step.ensures.next c.if-not-branch.false)
    c.bank-in-loop-event.ensures verdict c.and-effort.ensures c.tell.ensures
