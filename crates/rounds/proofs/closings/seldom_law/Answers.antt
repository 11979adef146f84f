use Rattle.rounds.proofs.Seldom.{seldom}
use Rattle.rounds.proofs.closings.seldom_law.Goals as goal

pub returns : goal.returns
returns c = seldom
