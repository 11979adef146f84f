use Rattle.room_yard.proofs.Told.{power_answers}
use Rattle.room_yard.proofs.laws.power_answers_law.Goals as goal

pub returns : goal.returns
returns c = power_answers
