use Rattle.incll_var.proofs.RestoreRuns.{restored_count, restoring_room, restored_room, later_room}
use Rattle.incll_var.proofs.laws.restore_laws.Goals as goal

pub returns-clause-cut : goal.returns-clause-cut
returns-clause-cut c = restoring_room

pub returns-clause-restored : goal.returns-clause-restored
returns-clause-restored c = restored_room

pub returns-clause-later : goal.returns-clause-later
returns-clause-later c = later_room

pub returns-clause-count : goal.returns-clause-count
returns-clause-count c = restored_count
