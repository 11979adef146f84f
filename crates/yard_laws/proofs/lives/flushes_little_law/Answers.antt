use Rattle.yard_laws.proofs.WriteBacks.{life_flushes_little}
use Rattle.yard_laws.proofs.lives.flushes_little_law.Goals as goal

pub returns : goal.returns
returns c = life_flushes_little
