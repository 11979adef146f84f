use Rattle.life_laws.proofs.Ended.{may_mark}
use Rattle.life_laws.proofs.life.may_mark_law.Goals as goal

pub returns : goal.returns
returns c = may_mark
