use Rattle.rounds.proofs.Seldom.{takes}
use Rattle.rounds.proofs.closings.takes_law.Goals as goal

pub returns : goal.returns
returns c = takes
