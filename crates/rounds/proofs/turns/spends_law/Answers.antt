use Rattle.rounds.proofs.Spends.{spends}
use Rattle.rounds.proofs.turns.spends_law.Goals as goal

pub returns : goal.returns
returns c = spends
