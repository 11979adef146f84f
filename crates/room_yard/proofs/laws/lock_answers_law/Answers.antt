use Rattle.room_yard.proofs.Told.{lock_answers}
use Rattle.room_yard.proofs.laws.lock_answers_law.Goals as goal

pub returns : goal.returns
returns c = lock_answers
