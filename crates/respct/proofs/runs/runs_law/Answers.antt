use Rattle.respct.proofs.Following.{runs_follow}
use Rattle.respct.proofs.runs.runs_law.Goals as goal

pub returns : goal.returns
returns c = runs_follow
