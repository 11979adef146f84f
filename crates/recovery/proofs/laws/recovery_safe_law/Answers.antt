use Rattle.recovery.proofs.Safe.{recovery_safe}
use Rattle.recovery.proofs.laws.recovery_safe_law.Goals as goal

pub returns : goal.returns
returns c = recovery_safe
