use Rattle.room_yard.proofs.Told.{unlock_answers}
use Rattle.room_yard.proofs.laws.unlock_answers_law.Goals as goal

pub returns : goal.returns
returns c = unlock_answers
