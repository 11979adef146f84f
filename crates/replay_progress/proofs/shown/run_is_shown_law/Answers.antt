use Rattle.replay_progress.proofs.Whole.{run_is_shown}
use Rattle.replay_progress.proofs.shown.run_is_shown_law.Goals as goal

pub returns : goal.returns
returns c = run_is_shown
