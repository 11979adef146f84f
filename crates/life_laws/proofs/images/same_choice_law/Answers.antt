use Rattle.life_laws.proofs.Survivors.{same_choice}
use Rattle.life_laws.proofs.images.same_choice_law.Goals as goal

pub returns : goal.returns
returns c = same_choice
