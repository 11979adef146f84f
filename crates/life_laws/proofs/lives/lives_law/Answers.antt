use Rattle.life_laws.proofs.Chain.{lives}
use Rattle.life_laws.proofs.lives.lives_law.Goals as goal

pub returns : goal.returns
returns c = lives
