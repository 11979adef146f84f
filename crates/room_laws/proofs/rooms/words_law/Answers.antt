use Rattle.room_laws.proofs.Words.{words}
use Rattle.room_laws.proofs.rooms.words_law.Goals as goal

pub returns : goal.returns
returns c = words
