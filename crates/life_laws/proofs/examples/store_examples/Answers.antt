use Rattle.life_laws.proofs.TriedEnds.{stores_tried}
use Rattle.life_laws.proofs.examples.store_examples.Goals as goal

pub returns : goal.returns
returns c = stores_tried
