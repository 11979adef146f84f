use Rattle.replay_laws.proofs.EndingsTold.{resume_is_told}
use Rattle.replay_laws.proofs.endings.resume_told_law.Goals as goal

pub returns : goal.returns
returns c = resume_is_told
