use Rattle.life_laws.proofs.Chain.{next_life}
use Rattle.life_laws.proofs.lives.next_life_law.Goals as goal

pub returns : goal.returns
returns c = next_life
