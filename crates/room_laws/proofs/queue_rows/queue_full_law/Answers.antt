use Rattle.room_laws.proofs.QueueLaws.{queue_full_law}
use Rattle.room_laws.proofs.queue_rows.queue_full_law.Goals as goal

pub returns : goal.returns
returns c = queue_full_law
