use Rattle.yard_laws.proofs.Legal.{closes_once_per_entry, ticks_little}
use Rattle.yard_laws.proofs.lives.few_closings_law.Goals as goal

pub returns-clause-closings : goal.returns-clause-closings
returns-clause-closings c = closes_once_per_entry

pub returns-clause-ticks : goal.returns-clause-ticks
returns-clause-ticks c = ticks_little
