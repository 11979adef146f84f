use Rattle.room_yard.proofs.Told.{claim_answers}
use Rattle.room_yard.proofs.laws.claim_answers_law.Goals as goal

pub returns : goal.returns
returns c = claim_answers
