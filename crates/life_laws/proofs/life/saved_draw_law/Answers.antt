use Rattle.life_laws.proofs.Ended.{saved_draw}
use Rattle.life_laws.proofs.life.saved_draw_law.Goals as goal

pub returns : goal.returns
returns c = saved_draw
