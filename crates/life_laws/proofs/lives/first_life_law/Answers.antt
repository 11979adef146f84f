use Rattle.life_laws.proofs.Chain.{first_life}
use Rattle.life_laws.proofs.lives.first_life_law.Goals as goal

pub returns : goal.returns
returns c = first_life
