use Rattle.rounds.proofs.Enough.{takes_ends}
use Rattle.rounds.proofs.ends.ends_takes_law.Goals as goal

pub returns : goal.returns
returns c = takes_ends
