use Rattle.life_laws.proofs.TriedEnds.{work_tried}
use Rattle.life_laws.proofs.examples.work_examples.Goals as goal

pub returns : goal.returns
returns c = work_tried
