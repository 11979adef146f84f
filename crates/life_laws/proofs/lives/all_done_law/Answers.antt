use Rattle.life_laws.proofs.Endings.{all_done}
use Rattle.life_laws.proofs.lives.all_done_law.Goals as goal

pub returns : goal.returns
returns c = all_done
