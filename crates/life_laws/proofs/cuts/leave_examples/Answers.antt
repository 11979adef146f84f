use Rattle.life_laws.proofs.TriedLives.{leaves_tried}
use Rattle.life_laws.proofs.cuts.leave_examples.Goals as goal

pub returns : goal.returns
returns c = leaves_tried
