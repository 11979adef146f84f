use Rattle.life_laws.proofs.Ended.{finished_mark}
use Rattle.life_laws.proofs.ends.finished_mark_law.Goals as goal

pub returns : goal.returns
returns c = finished_mark
