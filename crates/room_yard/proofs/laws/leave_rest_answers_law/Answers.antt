use Rattle.room_yard.proofs.Told.{leave_rest_answers}
use Rattle.room_yard.proofs.laws.leave_rest_answers_law.Goals as goal

pub returns : goal.returns
returns c = leave_rest_answers
