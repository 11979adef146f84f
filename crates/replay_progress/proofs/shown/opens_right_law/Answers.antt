use Rattle.replay_progress.proofs.Opening.{opens_right}
use Rattle.replay_progress.proofs.shown.opens_right_law.Goals as goal

pub returns : goal.returns
returns c = opens_right
