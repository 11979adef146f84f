use Rattle.script_text.specs.Program.{turns_of}
use Rattle.recovery.specs.Recovering.{events_left}
use Rattle.script_run.specs.Recovers.{IsGoingOn}
use Rattle.script_run.proofs.recovering.recovered.Given as goal

abbrev pub invariant-loop-order : goal.invariant-loop-order
invariant-loop-order l = IsGoingOn l.threads (turns_of l.mode) l.fn.recovery l.recovery l.order

abbrev pub decreases-loop-order : goal.decreases-loop-order
decreases-loop-order l = events_left l.recovery
