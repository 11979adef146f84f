use Rattle.locked_queue.proofs.Queues.{full_queue}
use Rattle.locked_queue.proofs.laws.full_law.Goals as goal

pub returns : goal.returns
returns c = full_queue
