use Rattle.incll_var.proofs.Survivors.{one_room, saved_room}
use Rattle.restart_point.proofs.Unwritten.{unwritten}
use Rattle.restart_point.proofs.laws.thread_laws.Goals as goal

pub returns-clause-kept : goal.returns-clause-kept
returns-clause-kept c = λ room choice is. one_room room.cells choice is.cells

pub returns-clause-saved : goal.returns-clause-saved
returns-clause-saved c = λ room saved epoch choice is. saved_room room.cells saved epoch choice is.cells

pub returns-clause-unwritten : goal.returns-clause-unwritten
returns-clause-unwritten c = unwritten
