use Rattle.std.proofs.Common.{length, ap, arith}
use Rattle.replay_model.specs.Replays.{ReplayState}
use Rattle.script_run.proofs.GivingUp.{few_workers}
use Rattle.script_run.proofs.replay.Replay.threads.Goals as goal

pub overflow_cast-result : goal.overflow_cast-result
overflow_cast-result c =
    let few = few_workers c.args.self.now c.requires in
    let counted = c.len.ensures in
    let items = c.self.inside.workers.ok.0 in
    let view = ap (λ (s : ReplayState). length s.workers) c.self.view_is in
    omega (arith, few, counted, items, view)
