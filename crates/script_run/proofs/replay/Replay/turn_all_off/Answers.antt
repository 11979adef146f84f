use Rattle.std.proofs.Common.{◌≡◌, ℕ, length, subst, arith}
use Rattle.replay_model.specs.Replays.{AllTurnOff}
use Rattle.script_run.proofs.GivingUp.{none_gave_up, gave_up_more, thread_is, all_gave_up}
use Rattle.script_run.proofs.replay.Replay.turn_all_off.Goals as goal

pub loop-thread-init : goal.loop-thread-init
loop-thread-init c = record { gave = none_gave_up c.args.self c.requires.replay; few = c.requires.few }

pub turn_off-replay-requires-clause-replay : goal.turn_off-replay-requires-clause-replay
turn_off-replay-requires-clause-replay c = c.loop-thread.invariant.gave.replay

pub turn_off-replay-requires-clause-few : goal.turn_off-replay-requires-clause-few
turn_off-replay-requires-clause-few c = c.loop-thread.invariant.few

pub turn_off-replay-requires-clause-thread : goal.turn_off-replay-requires-clause-thread
turn_off-replay-requires-clause-thread c =
    let same = thread_is c.loop-thread.thread c.args.self c.loop-thread.replay c.loop-thread.invariant.gave in
    let number = c.threads-threads.ensures in
    let test = c.loop-thread-test.true in
    omega (arith, same, number, test)

pub loop-thread-preserved : goal.loop-thread-preserved
loop-thread-preserved c = record {
  gave = gave_up_more c.loop-thread.thread c.args.self c.loop-thread.replay c.turn_off-replay.result
      (let number = c.threads-threads.ensures in let test = c.loop-thread-test.true in omega (arith, number, test))
      c.loop-thread.invariant.gave c.turn_off-replay.ensures.off c.turn_off-replay.ensures.replay;
  few = c.turn_off-replay.ensures.few;
}

pub returns : goal.returns
returns c =
    let number = c.threads-threads.ensures in
    let most = c.loop-thread.auto.thread-end in
    let test = c.loop-thread-test.false in
    let all : c.loop-thread.thread ≡ length c.args.self.workers = omega (arith, number, most, test) in
    record {
      off = subst (λ (n : ℕ). AllTurnOff 0 n c.args.self c.loop-thread.replay) all c.loop-thread.invariant.gave.off;
      replay = c.loop-thread.invariant.gave.replay;
      none = all_gave_up c.loop-thread.thread c.args.self c.loop-thread.replay all c.loop-thread.invariant.gave;
      beginning = c.loop-thread.invariant.gave.beginning;
      history = c.loop-thread.invariant.gave.history;
      checkpoints = c.loop-thread.invariant.gave.checkpoints;
    }
