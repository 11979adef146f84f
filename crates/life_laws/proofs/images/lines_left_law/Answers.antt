use Rattle.life_laws.proofs.Survivors.{lines_left_here}
use Rattle.life_laws.proofs.images.lines_left_law.Goals as goal

pub returns : goal.returns
returns c = lines_left_here
