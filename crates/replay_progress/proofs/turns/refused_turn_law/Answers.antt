use Rattle.replay_progress.proofs.Refused.{refused_turn}
use Rattle.replay_progress.proofs.turns.refused_turn_law.Goals as goal

pub returns : goal.returns
returns c = refused_turn
