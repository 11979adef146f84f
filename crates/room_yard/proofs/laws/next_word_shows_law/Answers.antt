use Rattle.room_yard.proofs.Words.{next_word_shows}
use Rattle.room_yard.proofs.laws.next_word_shows_law.Goals as goal

pub returns : goal.returns
returns c = next_word_shows
