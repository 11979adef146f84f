use Rattle.replay_progress.proofs.Turn.{turn_is_shown}
use Rattle.replay_progress.proofs.turns.turn_is_shown_law.Goals as goal

pub returns : goal.returns
returns c = turn_is_shown
