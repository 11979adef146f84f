use Rattle.respct.proofs.Misfits.{fitting}
use Rattle.respct.proofs.fitting.fitting_law.Goals as goal

pub returns : goal.returns
returns c = fitting
