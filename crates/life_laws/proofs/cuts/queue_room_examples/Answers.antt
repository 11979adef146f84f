use Rattle.life_laws.proofs.TriedRooms.{queues_tried}
use Rattle.life_laws.proofs.cuts.queue_room_examples.Goals as goal

pub returns : goal.returns
returns c = queues_tried
