use Rattle.yard_laws.proofs.Leave.{leave_keeps}
use Rattle.yard_laws.proofs.steps.leave_law.Goals as goal

pub returns : goal.returns
returns c = leave_keeps
