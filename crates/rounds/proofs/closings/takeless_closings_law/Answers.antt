use Rattle.rounds.proofs.Enough.{takeless_closings}
use Rattle.rounds.proofs.closings.takeless_closings_law.Goals as goal

pub returns : goal.returns
returns c = takeless_closings
