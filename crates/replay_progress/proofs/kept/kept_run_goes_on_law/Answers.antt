use Rattle.replay_progress.proofs.Runs.{kept_run_goes_on}
use Rattle.replay_progress.proofs.kept.kept_run_goes_on_law.Goals as goal

pub returns : goal.returns
returns c = kept_run_goes_on
