use Rattle.replay_laws.proofs.EndingsTold.{start_is_told}
use Rattle.replay_laws.proofs.endings.start_told_law.Goals as goal

pub returns : goal.returns
returns c = start_is_told
