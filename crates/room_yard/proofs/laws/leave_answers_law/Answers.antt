use Rattle.room_yard.proofs.Told.{leave_answers}
use Rattle.room_yard.proofs.laws.leave_answers_law.Goals as goal

pub returns : goal.returns
returns c = leave_answers
