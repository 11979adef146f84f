use Rattle.std.proofs.Common.{◌-◌, length}
use Rattle.script_text.specs.Program.{turns_of}
use Rattle.script_text.specs.Schedules.{schedule_of}
use Rattle.script_run.proofs.Going.{IsGoing}
use Rattle.script_run.proofs.replay.Replay.run.Given as goal

abbrev pub invariant-loop-run : goal.invariant-loop-run
invariant-loop-run l = IsGoing l.threads (turns_of l.mode) l.fn.order.given l.fn.self l.order l.run.replay l.run.marks.items l.run.dry

abbrev pub decreases-loop-run : goal.decreases-loop-run
decreases-loop-run l = length (schedule_of l.threads (turns_of l.mode)) - l.order.given
