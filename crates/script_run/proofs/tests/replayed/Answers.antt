use Rattle.script_run.proofs.Rising.{rising_told}
use Rattle.script_run.proofs.tests.replayed.Goals as goal

pub returns : goal.returns
returns c = record { rising = rising_told _ _ _ _ c.replay_job.result c.replay_job.ensures.told }
