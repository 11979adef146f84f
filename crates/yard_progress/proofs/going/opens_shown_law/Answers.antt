use Rattle.yard_progress.proofs.Moves.{opens_shown}
use Rattle.yard_progress.proofs.going.opens_shown_law.Goals as goal

pub returns : goal.returns
returns c = opens_shown
