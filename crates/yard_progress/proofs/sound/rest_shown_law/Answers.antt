use Rattle.yard_progress.proofs.Rests.{rest_shown}
use Rattle.yard_progress.proofs.sound.rest_shown_law.Goals as goal

pub returns : goal.returns
returns c = rest_shown
