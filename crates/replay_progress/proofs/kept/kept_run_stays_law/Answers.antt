use Rattle.replay_progress.proofs.Runs.{kept_run_stays}
use Rattle.replay_progress.proofs.kept.kept_run_stays_law.Goals as goal

pub returns : goal.returns
returns c = kept_run_stays
