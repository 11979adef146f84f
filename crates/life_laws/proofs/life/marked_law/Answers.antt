use Rattle.life_laws.proofs.Ended.{marked}
use Rattle.life_laws.proofs.life.marked_law.Goals as goal

pub returns : goal.returns
returns c = marked
