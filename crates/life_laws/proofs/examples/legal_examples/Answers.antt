use Rattle.life_laws.proofs.Tried.{legal_tried}
use Rattle.life_laws.proofs.examples.legal_examples.Goals as goal

pub returns : goal.returns
returns c = legal_tried
