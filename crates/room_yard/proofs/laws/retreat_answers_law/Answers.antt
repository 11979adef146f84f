use Rattle.room_yard.proofs.Told.{retreat_answers}
use Rattle.room_yard.proofs.laws.retreat_answers_law.Goals as goal

pub returns : goal.returns
returns c = retreat_answers
