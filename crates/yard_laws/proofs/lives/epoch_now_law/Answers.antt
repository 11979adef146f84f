use Rattle.yard_laws.proofs.Safe.{epoch_same}
use Rattle.yard_laws.proofs.lives.epoch_now_law.Goals as goal

pub returns : goal.returns
returns c = epoch_same
