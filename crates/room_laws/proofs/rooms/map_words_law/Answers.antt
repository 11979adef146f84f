use Rattle.room_laws.proofs.Words.{map_words_law}
use Rattle.room_laws.proofs.rooms.map_words_law.Goals as goal

pub returns : goal.returns
returns c = map_words_law
