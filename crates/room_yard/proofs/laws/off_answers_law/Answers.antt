use Rattle.room_yard.proofs.Told.{off_answers}
use Rattle.room_yard.proofs.laws.off_answers_law.Goals as goal

pub returns : goal.returns
returns c = off_answers
