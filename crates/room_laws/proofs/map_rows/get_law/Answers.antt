use Rattle.room_laws.proofs.MapLaws.{get_law}
use Rattle.room_laws.proofs.map_rows.get_law.Goals as goal

pub returns : goal.returns
returns c = get_law
