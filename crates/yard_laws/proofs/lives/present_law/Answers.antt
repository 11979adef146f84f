use Rattle.yard_laws.proofs.Present.{life_is_present}
use Rattle.yard_laws.proofs.lives.present_law.Goals as goal

pub returns : goal.returns
returns c = life_is_present
