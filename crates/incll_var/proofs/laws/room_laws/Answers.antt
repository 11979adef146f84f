use Rattle.incll_var.proofs.MoreRoom.{no_plan, one_line_room}
use Rattle.incll_var.proofs.Fills.{five_stores}
use Rattle.incll_var.proofs.laws.room_laws.Goals as goal

pub returns-clause-nothing : goal.returns-clause-nothing
returns-clause-nothing c = no_plan

pub returns-clause-one_line : goal.returns-clause-one_line
returns-clause-one_line c = one_line_room

pub returns-clause-five : goal.returns-clause-five
returns-clause-five c = five_stores
