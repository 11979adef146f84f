use Rattle.yard_laws.proofs.Merged.{one_checkpoints}
use Rattle.yard_laws.proofs.shares.one_checkpoints_law.Goals as goal

pub returns : goal.returns
returns c = one_checkpoints
