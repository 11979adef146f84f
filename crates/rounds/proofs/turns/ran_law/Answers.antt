use Rattle.rounds.proofs.Alone.{ran}
use Rattle.rounds.proofs.turns.ran_law.Goals as goal

pub returns : goal.returns
returns c = ran
