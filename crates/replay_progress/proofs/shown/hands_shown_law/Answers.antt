use Rattle.replay_progress.proofs.Hands.{hands_shown}
use Rattle.replay_progress.proofs.shown.hands_shown_law.Goals as goal

pub returns : goal.returns
returns c = hands_shown
