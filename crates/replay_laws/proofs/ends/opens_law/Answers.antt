use Rattle.replay_laws.proofs.Opens.{opens_replay}
use Rattle.replay_laws.proofs.ends.opens_law.Goals as goal

pub returns : goal.returns
returns c = opens_replay
