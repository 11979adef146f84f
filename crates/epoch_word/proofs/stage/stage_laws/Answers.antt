use Rattle.epoch_word.proofs.Stages.{store_law, write_back_law, fenced_law, surviving_law}
use Rattle.epoch_word.proofs.stage.stage_laws.Goals as goal

pub returns-clause-stored : goal.returns-clause-stored
returns-clause-stored c = store_law

pub returns-clause-asked : goal.returns-clause-asked
returns-clause-asked c = write_back_law

pub returns-clause-fenced : goal.returns-clause-fenced
returns-clause-fenced c = fenced_law

pub returns-clause-survives : goal.returns-clause-survives
returns-clause-survives c = surviving_law
