use Rattle.life_laws.proofs.Chain.{kept_recovers}
use Rattle.life_laws.proofs.lives.kept_law.Goals as goal

pub returns : goal.returns
returns c = kept_recovers
