use Rattle.line_memory.proofs.Survivors.{left-stored_last, whole-stored}
use Rattle.line_memory.proofs.laws.store_laws.Goals as goal

pub returns-clause-last : goal.returns-clause-last
returns-clause-last c = left-stored_last

pub returns-clause-whole : goal.returns-clause-whole
returns-clause-whole c = whole-stored
