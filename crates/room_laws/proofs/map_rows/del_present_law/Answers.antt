use Rattle.room_laws.proofs.MapLaws.{del_present_law}
use Rattle.room_laws.proofs.map_rows.del_present_law.Goals as goal

pub returns : goal.returns
returns c = del_present_law
