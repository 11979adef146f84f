use Rattle.life_laws.proofs.Safe.{next_epoch_safe}
use Rattle.life_laws.proofs.life.next_epoch_safe_law.Goals as goal

pub returns : goal.returns
returns c = next_epoch_safe
