use Rattle.room_laws.proofs.MapLaws.{map_full_law}
use Rattle.room_laws.proofs.map_rows.map_full_law.Goals as goal

pub returns : goal.returns
returns c = map_full_law
