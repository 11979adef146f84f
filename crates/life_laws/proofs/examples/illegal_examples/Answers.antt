use Rattle.life_laws.proofs.Tried.{illegal_tried}
use Rattle.life_laws.proofs.examples.illegal_examples.Goals as goal

pub returns : goal.returns
returns c = illegal_tried
