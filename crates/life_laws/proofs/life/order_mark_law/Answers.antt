use Rattle.life_laws.proofs.Steps.{order_mark}
use Rattle.life_laws.proofs.life.order_mark_law.Goals as goal

pub returns : goal.returns
returns c = order_mark
