use Rattle.life_laws.proofs.TriedLives.{lives_tried}
use Rattle.life_laws.proofs.cuts.life_examples.Goals as goal

pub returns : goal.returns
returns c = lives_tried
