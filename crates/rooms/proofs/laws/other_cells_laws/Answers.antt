use Rattle.rooms.proofs.Others.{other_cells, same_number, same_else}
use Rattle.rooms.proofs.laws.other_cells_laws.Goals as goal

pub returns-clause-cells : goal.returns-clause-cells
returns-clause-cells c = other_cells

pub returns-clause-number : goal.returns-clause-number
returns-clause-number c = same_number

pub returns-clause-others : goal.returns-clause-others
returns-clause-others c = same_else
