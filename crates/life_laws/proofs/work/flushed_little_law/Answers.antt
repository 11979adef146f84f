use Rattle.life_laws.proofs.Works.{flushed_little}
use Rattle.life_laws.proofs.work.flushed_little_law.Goals as goal

pub returns : goal.returns
returns c = flushed_little
