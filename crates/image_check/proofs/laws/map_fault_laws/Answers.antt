use Rattle.image_check.proofs.MapChecks.{map_sound_law, map_complete_law}
use Rattle.image_check.proofs.laws.map_fault_laws.Goals as goal

pub returns-clause-sound : goal.returns-clause-sound
returns-clause-sound c = map_sound_law

pub returns-clause-complete : goal.returns-clause-complete
returns-clause-complete c = map_complete_law
