use Rattle.life_laws.proofs.Endings.{acknowledged}
use Rattle.life_laws.proofs.lives.acknowledged_law.Goals as goal

pub returns : goal.returns
returns c = acknowledged
