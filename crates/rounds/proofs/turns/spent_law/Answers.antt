use Rattle.rounds.proofs.Spends.{spent_few}
use Rattle.rounds.proofs.turns.spent_law.Goals as goal

pub returns : goal.returns
returns c = spent_few
