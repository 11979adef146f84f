use Rattle.room_laws.proofs.Formatted.{queue_formatted_law}
use Rattle.room_laws.proofs.rooms.queue_formatted_law.Goals as goal

pub returns : goal.returns
returns c = queue_formatted_law
