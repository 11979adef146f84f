use Rattle.image_check.proofs.ImageChecks.{left_lawful}
use Rattle.image_check.proofs.laws.left_lawful_law.Goals as goal

pub returns : goal.returns
returns c = left_lawful
