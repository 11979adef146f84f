use Rattle.yard_progress.proofs.Moves.{leave_shown}
use Rattle.yard_progress.proofs.steps.leave_shown_law.Goals as goal

pub returns : goal.returns
returns c = leave_shown
