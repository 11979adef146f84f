use Rattle.crash_explorer.proofs.Running.{IsRun}
use Rattle.crash_explorer.proofs.run.explore.Given as goal

abbrev pub invariant-loop-event : goal.invariant-loop-event
invariant-loop-event g l = IsRun l.plan g.S.Subject.cut g.S.Subject.next g.S.Subject.goes_on g.W.Watcher.tells l.fn.subject l.fn.watcher l.event l.subject l.watcher l.effort
