use Rattle.life_laws.proofs.TriedStands.{stands_tried}
use Rattle.life_laws.proofs.cuts.stands_examples.Goals as goal

pub returns : goal.returns
returns c = stands_tried
