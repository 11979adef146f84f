use Rattle.yard_laws.proofs.WriteBacks.{few_are_written}
use Rattle.yard_laws.proofs.lives.few_written_law.Goals as goal

pub returns : goal.returns
returns c = few_are_written
