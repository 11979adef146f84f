use Rattle.yard_laws.proofs.Outcomes.{life_ends, finished_is_over, over_is_last}
use Rattle.yard_laws.proofs.lives.life_ends_law.Goals as goal

pub returns-clause-ends : goal.returns-clause-ends
returns-clause-ends c = life_ends

pub returns-clause-over : goal.returns-clause-over
returns-clause-over c = finished_is_over

pub returns-clause-last : goal.returns-clause-last
returns-clause-last c = over_is_last
