use Rattle.room_laws.proofs.Planned.{stores_within}
use Rattle.room_laws.proofs.stores.stores_within_law.Goals as goal

pub returns : goal.returns
returns c = stores_within
