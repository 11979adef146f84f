use Rattle.replay_progress.proofs.Whole.{takeless_replay_ends}
use Rattle.replay_progress.proofs.ends.takeless_replay_ends_law.Goals as goal

pub returns : goal.returns
returns c = takeless_replay_ends
