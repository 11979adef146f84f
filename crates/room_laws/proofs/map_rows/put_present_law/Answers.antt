use Rattle.room_laws.proofs.MapLaws.{put_present_law}
use Rattle.room_laws.proofs.map_rows.put_present_law.Goals as goal

pub returns : goal.returns
returns c = put_present_law
