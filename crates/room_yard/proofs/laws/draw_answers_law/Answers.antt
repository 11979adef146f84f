use Rattle.room_yard.proofs.Told.{draw_answers}
use Rattle.room_yard.proofs.laws.draw_answers_law.Goals as goal

pub returns : goal.returns
returns c = draw_answers
