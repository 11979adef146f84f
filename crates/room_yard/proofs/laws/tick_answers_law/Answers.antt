use Rattle.room_yard.proofs.Told.{tick_answers}
use Rattle.room_yard.proofs.laws.tick_answers_law.Goals as goal

pub returns : goal.returns
returns c = tick_answers
