use Rattle.life_laws.proofs.Formats.{resume_safe}
use Rattle.life_laws.proofs.life.resume_safe_law.Goals as goal

pub returns : goal.returns
returns c = resume_safe
