use Rattle.yard_progress.proofs.Moves.{opens_going}
use Rattle.yard_progress.proofs.going.opens_going_law.Goals as goal

pub returns : goal.returns
returns c = opens_going
