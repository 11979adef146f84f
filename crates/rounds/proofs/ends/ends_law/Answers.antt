use Rattle.rounds.proofs.Enough.{takeless_ends}
use Rattle.rounds.proofs.ends.ends_law.Goals as goal

pub returns : goal.returns
returns c = takeless_ends
