use Rattle.yard_progress.proofs.Moves.{draw_shown}
use Rattle.yard_progress.proofs.steps.draw_shown_law.Goals as goal

pub returns : goal.returns
returns c = draw_shown
