use Rattle.life_laws.proofs.Survivors.{quiet}
use Rattle.life_laws.proofs.images.quiet_law.Goals as goal

pub returns : goal.returns
returns c = quiet
