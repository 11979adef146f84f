use Rattle.std.proofs.Common.{refl}
use Rattle.worker.proofs.commands.begin_in.Goals as goal

pub returns-in-Ok-clause-begun : goal.returns-in-Ok-clause-begun
returns-in-Ok-clause-begun g c = (record { begun = c.in-Ok.ensures.begun; reply_is = c.in-Ok.ensures.reply; kept = c.in-Ok.ensures.kept }, refl, refl)

pub returns-in-Err-clause-begun : goal.returns-in-Err-clause-begun
returns-in-Err-clause-begun g c = record { rests = c.in-Err.ensures.refused; off = c.off.ensures.done }
