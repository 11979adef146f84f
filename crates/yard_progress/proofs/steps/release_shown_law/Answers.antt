use Rattle.yard_progress.proofs.Moves.{release_shown}
use Rattle.yard_progress.proofs.steps.release_shown_law.Goals as goal

pub returns : goal.returns
returns c = release_shown
