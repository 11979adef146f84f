use Rattle.seq_object.proofs.Histories.{point}
use Rattle.seq_object.proofs.laws.point_law.Goals as goal

pub returns : goal.returns
returns c = point
