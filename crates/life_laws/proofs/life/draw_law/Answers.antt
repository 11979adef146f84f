use Rattle.life_laws.proofs.Steps.{draw}
use Rattle.life_laws.proofs.life.draw_law.Goals as goal

pub returns : goal.returns
returns c = draw
