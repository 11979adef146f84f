use Rattle.seq_object.proofs.Histories.{point_count}
use Rattle.seq_object.proofs.laws.point_count_law.Goals as goal

pub returns : goal.returns
returns c = point_count
