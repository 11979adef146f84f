use Rattle.replay_laws.proofs.Keeps.{turn_sets_own_view, turn_keeps_checkpoints, turn_keeps_history, turn_keeps_replay}
use Rattle.replay_laws.proofs.turns.turn_laws.Goals as goal

pub returns-clause-views : goal.returns-clause-views
returns-clause-views c = turn_sets_own_view

pub returns-clause-checkpoints : goal.returns-clause-checkpoints
returns-clause-checkpoints c = turn_keeps_checkpoints

pub returns-clause-history : goal.returns-clause-history
returns-clause-history c = turn_keeps_history

pub returns-clause-kept : goal.returns-clause-kept
returns-clause-kept c = turn_keeps_replay
