use Rattle.yard_laws.proofs.Claim.{claim_keeps}
use Rattle.yard_laws.proofs.steps.claim_law.Goals as goal

pub returns : goal.returns
returns c = claim_keeps
