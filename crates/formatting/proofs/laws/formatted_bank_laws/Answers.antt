use Rattle.formatting.proofs.ByRoom.{formatted_quiet, formatted_loads, formatted_words}
use Rattle.formatting.proofs.laws.formatted_bank_laws.Goals as goal

pub returns-clause-quiet : goal.returns-clause-quiet
returns-clause-quiet c = formatted_quiet

pub returns-clause-loads : goal.returns-clause-loads
returns-clause-loads c = formatted_loads

pub returns-clause-words : goal.returns-clause-words
returns-clause-words c = formatted_words
