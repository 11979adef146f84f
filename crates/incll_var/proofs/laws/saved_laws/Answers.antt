use Rattle.incll_var.proofs.Survivors.{saved_kept, saved_room, saved_pending}
use Rattle.incll_var.proofs.laws.saved_laws.Goals as goal

pub returns-clause-kept : goal.returns-clause-kept
returns-clause-kept c = saved_kept

pub returns-clause-room : goal.returns-clause-room
returns-clause-room c = saved_room

pub returns-clause-pending : goal.returns-clause-pending
returns-clause-pending c = saved_pending
