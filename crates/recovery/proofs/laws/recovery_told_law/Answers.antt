use Rattle.recovery.proofs.Told.{counts_little, cut_is_told}
use Rattle.recovery.proofs.laws.recovery_told_law.Goals as goal

pub returns : goal.returns
returns c = record { counts = counts_little; cut = cut_is_told }
