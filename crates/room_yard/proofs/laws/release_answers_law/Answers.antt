use Rattle.room_yard.proofs.Told.{release_answers}
use Rattle.room_yard.proofs.laws.release_answers_law.Goals as goal

pub returns : goal.returns
returns c = release_answers
