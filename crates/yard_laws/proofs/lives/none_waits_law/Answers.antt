use Rattle.yard_laws.proofs.Outcomes.{none_waits_without_take}
use Rattle.yard_laws.proofs.lives.none_waits_law.Goals as goal

pub returns : goal.returns
returns c = none_waits_without_take
