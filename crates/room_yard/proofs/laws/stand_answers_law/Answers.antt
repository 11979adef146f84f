use Rattle.room_yard.proofs.Told.{stand_answers}
use Rattle.room_yard.proofs.laws.stand_answers_law.Goals as goal

pub returns : goal.returns
returns c = stand_answers
