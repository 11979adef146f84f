use Rattle.life_laws.proofs.Works.{most_done_all}
use Rattle.life_laws.proofs.work.most_work_law.Goals as goal

pub returns : goal.returns
returns c = most_done_all
