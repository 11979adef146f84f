use Rattle.script_run.specs.Runs.{HaveDone}
use Rattle.script_run.proofs.GivingUp.{GaveUp}
use Rattle.script_run.proofs.replay.Replay.turn_all_off.Given as goal

abbrev pub invariant-loop-thread : goal.invariant-loop-thread
invariant-loop-thread l = record {
  gave : GaveUp l.thread l.fn.self l.replay;
  few : HaveDone 10000016 l.replay;
}
