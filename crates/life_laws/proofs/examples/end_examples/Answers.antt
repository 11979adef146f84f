use Rattle.life_laws.proofs.TriedEnds.{ends_tried}
use Rattle.life_laws.proofs.examples.end_examples.Goals as goal

pub returns : goal.returns
returns c = ends_tried
