use Rattle.room_laws.proofs.MapLaws.{put_absent_law}
use Rattle.room_laws.proofs.map_rows.put_absent_law.Goals as goal

pub returns : goal.returns
returns c = put_absent_law
