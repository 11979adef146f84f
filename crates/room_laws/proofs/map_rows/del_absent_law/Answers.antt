use Rattle.room_laws.proofs.MapLaws.{del_absent_law}
use Rattle.room_laws.proofs.map_rows.del_absent_law.Goals as goal

pub returns : goal.returns
returns c = del_absent_law
