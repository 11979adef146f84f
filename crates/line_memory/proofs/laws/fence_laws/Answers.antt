use Rattle.line_memory.proofs.Survivors.{left-fenced, whole-fenced}
use Rattle.line_memory.proofs.laws.fence_laws.Goals as goal

pub returns-clause-left : goal.returns-clause-left
returns-clause-left c = left-fenced

pub returns-clause-whole : goal.returns-clause-whole
returns-clause-whole c = whole-fenced
