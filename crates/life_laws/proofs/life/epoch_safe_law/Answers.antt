use Rattle.life_laws.proofs.Safe.{epoch_safe}
use Rattle.life_laws.proofs.life.epoch_safe_law.Goals as goal

pub returns : goal.returns
returns c = epoch_safe
