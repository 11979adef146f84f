use Rattle.life_laws.proofs.TriedCuts.{unsafe_tried}
use Rattle.life_laws.proofs.cuts.unsafe_examples.Goals as goal

pub returns : goal.returns
returns c = unsafe_tried
