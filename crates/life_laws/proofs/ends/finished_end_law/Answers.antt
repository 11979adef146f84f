use Rattle.life_laws.proofs.Endings.{finished_end}
use Rattle.life_laws.proofs.ends.finished_end_law.Goals as goal

pub returns : goal.returns
returns c = finished_end
