use Rattle.room_laws.proofs.QueueLaws.{enq_law}
use Rattle.room_laws.proofs.queue_rows.enq_law.Goals as goal

pub returns : goal.returns
returns c = enq_law
