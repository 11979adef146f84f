use Rattle.room_yard.proofs.Told.{held_answers}
use Rattle.room_yard.proofs.laws.held_answers_law.Goals as goal

pub returns : goal.returns
returns c = held_answers
