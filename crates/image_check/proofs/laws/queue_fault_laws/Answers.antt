use Rattle.image_check.proofs.QueueChecks.{queue_sound_law, queue_complete_law}
use Rattle.image_check.proofs.laws.queue_fault_laws.Goals as goal

pub returns-clause-sound : goal.returns-clause-sound
returns-clause-sound c = queue_sound_law

pub returns-clause-complete : goal.returns-clause-complete
returns-clause-complete c = queue_complete_law
