use Rattle.life_laws.proofs.Survivors.{stands}
use Rattle.life_laws.proofs.images.stands_law.Goals as goal

pub returns : goal.returns
returns c = stands
