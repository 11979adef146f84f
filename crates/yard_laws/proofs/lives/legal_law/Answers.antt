use Rattle.yard_laws.proofs.Legal.{life_is_legal}
use Rattle.yard_laws.proofs.lives.legal_law.Goals as goal

pub returns : goal.returns
returns c = life_is_legal
