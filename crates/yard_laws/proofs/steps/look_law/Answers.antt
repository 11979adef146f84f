use Rattle.yard_laws.proofs.Looks.{look_keeps}
use Rattle.yard_laws.proofs.steps.look_law.Goals as goal

pub returns : goal.returns
returns c = look_keeps
