use Rattle.yard_progress.proofs.Moves.{view_shown}
use Rattle.yard_progress.proofs.steps.view_shown_law.Goals as goal

pub returns : goal.returns
returns c = view_shown
