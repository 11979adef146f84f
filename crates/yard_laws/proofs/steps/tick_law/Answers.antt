use Rattle.yard_laws.proofs.Looks.{tick_keeps}
use Rattle.yard_laws.proofs.steps.tick_law.Goals as goal

pub returns : goal.returns
returns c = tick_keeps
