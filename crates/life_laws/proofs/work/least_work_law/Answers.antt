use Rattle.life_laws.proofs.Works.{least_done_all}
use Rattle.life_laws.proofs.work.least_work_law.Goals as goal

pub returns : goal.returns
returns c = least_done_all
