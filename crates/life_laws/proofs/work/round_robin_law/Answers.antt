use Rattle.life_laws.proofs.Works.{round_robin_rounds}
use Rattle.life_laws.proofs.work.round_robin_law.Goals as goal

pub returns : goal.returns
returns c = round_robin_rounds
