use Rattle.command_room.proofs.FormattedRooms.{formatted_may}
use Rattle.command_room.proofs.laws.formatted_room_law.Goals as goal

pub returns : goal.returns
returns c = formatted_may
