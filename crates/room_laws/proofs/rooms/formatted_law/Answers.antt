use Rattle.room_laws.proofs.Formatted.{formatted_room}
use Rattle.room_laws.proofs.rooms.formatted_law.Goals as goal

pub returns : goal.returns
returns c = formatted_room
