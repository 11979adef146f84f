use Rattle.life_laws.proofs.Formats.{start_safe}
use Rattle.life_laws.proofs.life.start_safe_law.Goals as goal

pub returns : goal.returns
returns c = start_safe
