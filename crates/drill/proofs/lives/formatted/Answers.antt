use Rattle.drill.proofs.LifeCalls.{formatted_is}
use Rattle.drill.proofs.lives.formatted.Goals as goal

pub returns : goal.returns
returns c = formatted_is c.settings.result c.format.result c.settings.ensures c.format.ensures.is
