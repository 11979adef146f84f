use Rattle.yard_laws.proofs.Safe.{life_is_safe}
use Rattle.yard_laws.proofs.lives.safe_law.Goals as goal

pub returns : goal.returns
returns c = life_is_safe
