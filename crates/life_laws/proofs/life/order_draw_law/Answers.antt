use Rattle.life_laws.proofs.Steps.{order_draw}
use Rattle.life_laws.proofs.life.order_draw_law.Goals as goal

pub returns : goal.returns
returns c = order_draw
