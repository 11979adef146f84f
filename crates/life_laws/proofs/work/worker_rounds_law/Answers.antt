use Rattle.life_laws.proofs.Works.{worker_rounds}
use Rattle.life_laws.proofs.work.worker_rounds_law.Goals as goal

pub returns : goal.returns
returns c = worker_rounds
