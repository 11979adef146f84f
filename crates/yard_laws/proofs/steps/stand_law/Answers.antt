use Rattle.yard_laws.proofs.Stand.{stand_keeps}
use Rattle.yard_laws.proofs.steps.stand_law.Goals as goal

pub returns : goal.returns
returns c = stand_keeps
