use Rattle.room_laws.proofs.MapLaws.{layouts}
use Rattle.room_laws.proofs.map_rows.layouts_law.Goals as goal

pub returns : goal.returns
returns c = layouts
