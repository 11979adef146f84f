use Rattle.std.proofs.Common.{refl}
use Rattle.respct.proofs.drilling.drill.Goals as goal

pub returns-in-Err-clause-refused : goal.returns-in-Err-clause-refused
returns-in-Err-clause-refused g c = (c.in-Err.ensures.refused, refl)

pub returns-in-Ok-tell-clause-drilled : goal.returns-in-Ok-tell-clause-drilled
returns-in-Ok-tell-clause-drilled g c = record { summary = c.in-Ok.summary; drilled = record { tells = c.in-Ok.ensures.told; holds = c.in-Ok.ensures.held; kept = (c.in-Ok.ensures.kept).0; finished = (c.in-Ok.ensures.kept).1 }; appended = c.in-Ok-tell.ensures.written }
