use Rattle.life_laws.proofs.TriedStands.{recovers_tried}
use Rattle.life_laws.proofs.cuts.recover_examples.Goals as goal

pub returns : goal.returns
returns c = recovers_tried
