use Rattle.life_laws.proofs.Steps.{between}
use Rattle.life_laws.proofs.life.between_law.Goals as goal

pub returns : goal.returns
returns c = between
