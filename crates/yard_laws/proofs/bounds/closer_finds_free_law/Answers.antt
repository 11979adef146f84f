use Rattle.yard_laws.proofs.Free.{closer_finds_free}
use Rattle.yard_laws.proofs.bounds.closer_finds_free_law.Goals as goal

pub returns : goal.returns
returns c = closer_finds_free
