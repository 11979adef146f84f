use Rattle.room_laws.proofs.AllRows.{within}
use Rattle.room_laws.proofs.rooms.within_law.Goals as goal

pub returns : goal.returns
returns c = within
