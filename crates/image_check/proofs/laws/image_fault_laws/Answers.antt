use Rattle.image_check.proofs.ImageChecks.{image_sound_law, image_complete_law}
use Rattle.image_check.proofs.laws.image_fault_laws.Goals as goal

pub returns-clause-sound : goal.returns-clause-sound
returns-clause-sound c = image_sound_law

pub returns-clause-complete : goal.returns-clause-complete
returns-clause-complete c = image_complete_law
