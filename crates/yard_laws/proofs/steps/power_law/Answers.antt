use Rattle.yard_laws.proofs.Looks.{power_keeps}
use Rattle.yard_laws.proofs.steps.power_law.Goals as goal

pub returns : goal.returns
returns c = power_keeps
