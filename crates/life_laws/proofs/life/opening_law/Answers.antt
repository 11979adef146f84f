use Rattle.life_laws.proofs.Steps.{opening}
use Rattle.life_laws.proofs.life.opening_law.Goals as goal

pub returns : goal.returns
returns c = opening
