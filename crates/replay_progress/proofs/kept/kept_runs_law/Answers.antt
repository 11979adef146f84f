use Rattle.replay_progress.proofs.Runs.{kept_runs}
use Rattle.replay_progress.proofs.kept.kept_runs_law.Goals as goal

pub returns : goal.returns
returns c = kept_runs
