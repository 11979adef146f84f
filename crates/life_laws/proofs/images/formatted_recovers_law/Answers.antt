use Rattle.life_laws.proofs.Formats.{formatted_recovers}
use Rattle.life_laws.proofs.images.formatted_recovers_law.Goals as goal

pub returns : goal.returns
returns c = formatted_recovers
