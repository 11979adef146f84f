use Rattle.yard_laws.proofs.Given.{lock_gives}
use Rattle.yard_laws.proofs.bounds.lock_gives_law.Goals as goal

pub returns : goal.returns
returns c = lock_gives
