use Rattle.life_laws.proofs.Tried.{draws_tried}
use Rattle.life_laws.proofs.examples.draw_examples.Goals as goal

pub returns : goal.returns
returns c = draws_tried
