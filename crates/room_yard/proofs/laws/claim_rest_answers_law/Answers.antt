use Rattle.room_yard.proofs.Told.{claim_rest_answers}
use Rattle.room_yard.proofs.laws.claim_rest_answers_law.Goals as goal

pub returns : goal.returns
returns c = claim_rest_answers
