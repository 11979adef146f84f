use Rattle.line_alloc.proofs.Taken.{map_has_header, queue_has_header}
use Rattle.line_alloc.proofs.laws.header_laws.Goals as goal

pub returns-clause-map : goal.returns-clause-map
returns-clause-map c = map_has_header

pub returns-clause-queue : goal.returns-clause-queue
returns-clause-queue c = queue_has_header
