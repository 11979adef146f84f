use Rattle.yard_laws.proofs.Draw.{draw_keeps}
use Rattle.yard_laws.proofs.steps.draw_law.Goals as goal

pub returns : goal.returns
returns c = draw_keeps
