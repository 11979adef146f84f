use Rattle.yard_laws.proofs.Unlock.{unlock_keeps}
use Rattle.yard_laws.proofs.steps.unlock_law.Goals as goal

pub returns : goal.returns
returns c = unlock_keeps
