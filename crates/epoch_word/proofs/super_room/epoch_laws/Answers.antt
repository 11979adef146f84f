use Rattle.epoch_word.proofs.Epochs.{survivor_law, next_law}
use Rattle.epoch_word.proofs.super_room.epoch_laws.Goals as goal

pub returns-clause-left : goal.returns-clause-left
returns-clause-left c = survivor_law

pub returns-clause-next : goal.returns-clause-next
returns-clause-next c = next_law
