use Rattle.life_laws.proofs.Ended.{stalled_mark}
use Rattle.life_laws.proofs.ends.stalled_mark_law.Goals as goal

pub returns : goal.returns
returns c = stalled_mark
