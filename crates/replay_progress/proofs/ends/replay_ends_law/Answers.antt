use Rattle.replay_progress.proofs.Whole.{replay_ends}
use Rattle.replay_progress.proofs.ends.replay_ends_law.Goals as goal

pub returns : goal.returns
returns c = replay_ends
