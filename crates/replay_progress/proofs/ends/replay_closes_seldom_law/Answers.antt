use Rattle.replay_progress.proofs.Whole.{replay_closes_seldom}
use Rattle.replay_progress.proofs.ends.replay_closes_seldom_law.Goals as goal

pub returns : goal.returns
returns c = replay_closes_seldom
