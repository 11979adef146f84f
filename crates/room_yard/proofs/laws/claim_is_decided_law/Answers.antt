use Rattle.room_yard.proofs.Words.{claim_is_decided}
use Rattle.room_yard.proofs.laws.claim_is_decided_law.Goals as goal

pub returns : goal.returns
returns c = claim_is_decided
