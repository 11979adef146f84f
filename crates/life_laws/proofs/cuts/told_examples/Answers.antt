use Rattle.life_laws.proofs.TriedReports.{told_tried}
use Rattle.life_laws.proofs.cuts.told_examples.Goals as goal

pub returns : goal.returns
returns c = told_tried
