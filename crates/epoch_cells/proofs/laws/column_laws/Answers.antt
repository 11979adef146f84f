use Rattle.planned_cells.specs.Planned.{planned_words}
use Rattle.epoch_cells.specs.Cells.{cell_count}
use Rattle.epoch_cells.proofs.Records.{column_count, column_writes}
use Rattle.epoch_cells.proofs.laws.column_laws.Goals as goal

pub returns-clause-count : goal.returns-clause-count
returns-clause-count c = λ s word. column_count (planned_words s.cells s.plan) (cell_count s) word

pub returns-clause-writes : goal.returns-clause-writes
returns-clause-writes c = λ s xs word within low. column_writes (planned_words s.cells s.plan) (cell_count s) word xs within low
