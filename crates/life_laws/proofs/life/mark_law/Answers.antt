use Rattle.life_laws.proofs.Steps.{mark}
use Rattle.life_laws.proofs.life.mark_law.Goals as goal

pub returns : goal.returns
returns c = mark
