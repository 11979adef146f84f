use Rattle.life_laws.proofs.States.{one_state}
use Rattle.life_laws.proofs.images.one_state_law.Goals as goal

pub returns : goal.returns
returns c = one_state
