use Rattle.seq_object.proofs.Listed.{listed_pairs}
use Rattle.seq_object.proofs.laws.listed_law.Goals as goal

pub returns : goal.returns
returns c = listed_pairs
