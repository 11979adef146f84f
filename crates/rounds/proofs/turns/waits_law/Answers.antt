use Rattle.rounds.proofs.Alone.{waits}
use Rattle.rounds.proofs.turns.waits_law.Goals as goal

pub returns : goal.returns
returns c = waits
