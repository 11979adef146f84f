use Rattle.room_laws.proofs.Words.{queue_words_law}
use Rattle.room_laws.proofs.rooms.queue_words_law.Goals as goal

pub returns : goal.returns
returns c = queue_words_law
