use Rattle.yard_laws.proofs.Lock.{lock_keeps}
use Rattle.yard_laws.proofs.steps.lock_law.Goals as goal

pub returns : goal.returns
returns c = lock_keeps
