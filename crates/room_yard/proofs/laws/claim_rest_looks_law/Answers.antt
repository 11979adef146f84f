use Rattle.room_yard.proofs.Looks.{claim_rest_looks}
use Rattle.room_yard.proofs.laws.claim_rest_looks_law.Goals as goal

pub returns : goal.returns
returns c = claim_rest_looks
