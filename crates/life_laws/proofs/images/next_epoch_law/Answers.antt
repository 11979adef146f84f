use Rattle.life_laws.proofs.Safe.{next_epoch}
use Rattle.life_laws.proofs.images.next_epoch_law.Goals as goal

pub returns : goal.returns
returns c = next_epoch
