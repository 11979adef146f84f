use Rattle.yard_progress.proofs.Moves.{releases_going}
use Rattle.yard_progress.proofs.going.releases_going_law.Goals as goal

pub returns : goal.returns
returns c = releases_going
