use Rattle.room_laws.proofs.Formatted.{map_formatted_law}
use Rattle.room_laws.proofs.rooms.map_formatted_law.Goals as goal

pub returns : goal.returns
returns c = map_formatted_law
