use Rattle.line_memory.proofs.Survivors.{left-length, left-words}
use Rattle.line_memory.proofs.laws.survivor_laws.Goals as goal

pub returns-clause-length : goal.returns-clause-length
returns-clause-length c = left-length

pub returns-clause-words : goal.returns-clause-words
returns-clause-words c = left-words
