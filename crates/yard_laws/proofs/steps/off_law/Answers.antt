use Rattle.yard_laws.proofs.Looks.{off_keeps}
use Rattle.yard_laws.proofs.steps.off_law.Goals as goal

pub returns : goal.returns
returns c = off_keeps
