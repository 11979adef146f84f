use Rattle.life_laws.proofs.Safe.{quiet_safe}
use Rattle.life_laws.proofs.life.quiet_safe_law.Goals as goal

pub returns : goal.returns
returns c = quiet_safe
