use Rattle.yard_laws.proofs.Retreat.{retreat_keeps}
use Rattle.yard_laws.proofs.steps.retreat_law.Goals as goal

pub returns : goal.returns
returns c = retreat_keeps
