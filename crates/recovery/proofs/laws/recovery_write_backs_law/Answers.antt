use Rattle.recovery.proofs.FewWriteBacks.{write_backs_kept, write_backs_total}
use Rattle.recovery.proofs.TornCounts.{write_backs_count}
use Rattle.recovery.proofs.laws.recovery_write_backs_law.Goals as goal

pub returns : goal.returns
returns c = record { kept = write_backs_kept; all = write_backs_total; count = write_backs_count }
