use Rattle.incll_var.proofs.Survivors.{kept_law, one_room}
use Rattle.incll_var.proofs.laws.survivor_laws.Goals as goal

pub returns-clause-kept : goal.returns-clause-kept
returns-clause-kept c = kept_law

pub returns-clause-room : goal.returns-clause-room
returns-clause-room c = one_room
