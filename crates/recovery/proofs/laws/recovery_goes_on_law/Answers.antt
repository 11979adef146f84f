use Rattle.recovery.proofs.GoesOn.{goes_on}
use Rattle.recovery.proofs.laws.recovery_goes_on_law.Goals as goal

pub returns : goal.returns
returns c = goes_on
