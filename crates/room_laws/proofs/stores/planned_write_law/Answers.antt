use Rattle.room_laws.proofs.Planned.{planned_write}
use Rattle.room_laws.proofs.stores.planned_write_law.Goals as goal

pub returns : goal.returns
returns c = planned_write
