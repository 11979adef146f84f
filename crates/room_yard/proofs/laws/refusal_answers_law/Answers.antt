use Rattle.room_yard.proofs.Told.{refusal_answers}
use Rattle.room_yard.proofs.laws.refusal_answers_law.Goals as goal

pub returns : goal.returns
returns c = refusal_answers
