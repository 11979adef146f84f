use Rattle.room_laws.proofs.Words.{point_words}
use Rattle.room_laws.proofs.rooms.point_words_law.Goals as goal

pub returns : goal.returns
returns c = point_words
