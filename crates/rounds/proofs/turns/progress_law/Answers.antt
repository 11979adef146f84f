use Rattle.rounds.proofs.GoesOn.{progress}
use Rattle.rounds.proofs.turns.progress_law.Goals as goal

pub returns : goal.returns
returns c = progress
