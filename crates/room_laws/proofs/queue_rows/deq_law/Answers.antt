use Rattle.room_laws.proofs.QueueLaws.{deq_law}
use Rattle.room_laws.proofs.queue_rows.deq_law.Goals as goal

pub returns : goal.returns
returns c = deq_law
