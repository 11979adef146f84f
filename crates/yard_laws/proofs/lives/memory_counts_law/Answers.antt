use Rattle.yard_laws.proofs.WriteBacks.{memory_counts}
use Rattle.yard_laws.proofs.lives.memory_counts_law.Goals as goal

pub returns : goal.returns
returns c = memory_counts
