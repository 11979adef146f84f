use Rattle.yard_laws.proofs.Release.{release_keeps}
use Rattle.yard_laws.proofs.steps.release_law.Goals as goal

pub returns : goal.returns
returns c = release_keeps
