use Rattle.life_laws.proofs.FewLines.{newly_pending_moves}
use Rattle.life_laws.proofs.work.newly_pending_law.Goals as goal

pub returns : goal.returns
returns c = newly_pending_moves
