use Rattle.room_laws.proofs.QueueLaws.{queue_items_law}
use Rattle.room_laws.proofs.rooms.queue_items_law.Goals as goal

pub returns : goal.returns
returns c = queue_items_law
