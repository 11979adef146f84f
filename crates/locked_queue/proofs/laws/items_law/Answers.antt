use Rattle.locked_queue.proofs.Queues.{items_stand}
use Rattle.locked_queue.proofs.laws.items_law.Goals as goal

pub returns : goal.returns
returns c = items_stand
