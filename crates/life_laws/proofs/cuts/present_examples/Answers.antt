use Rattle.life_laws.proofs.TriedPresent.{present_tried}
use Rattle.life_laws.proofs.cuts.present_examples.Goals as goal

pub returns : goal.returns
returns c = present_tried
