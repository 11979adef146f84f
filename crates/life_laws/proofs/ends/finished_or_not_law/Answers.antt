use Rattle.life_laws.proofs.Endings.{finished_or_not}
use Rattle.life_laws.proofs.ends.finished_or_not_law.Goals as goal

pub returns : goal.returns
returns c = finished_or_not
