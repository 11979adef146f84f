use Rattle.worker.proofs.Unchanged.{has_worked}
use Rattle.worker.proofs.laws.worked_law.Goals as goal

pub returns : goal.returns
returns c = has_worked
