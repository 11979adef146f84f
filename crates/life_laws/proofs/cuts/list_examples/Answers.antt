use Rattle.life_laws.proofs.TriedCuts.{lists_tried}
use Rattle.life_laws.proofs.cuts.list_examples.Goals as goal

pub returns : goal.returns
returns c = lists_tried
