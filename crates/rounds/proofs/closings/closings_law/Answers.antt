use Rattle.rounds.proofs.Enough.{closings}
use Rattle.rounds.proofs.closings.closings_law.Goals as goal

pub returns : goal.returns
returns c = closings
