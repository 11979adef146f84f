use Rattle.room_laws.proofs.Planned.{all_stores}
use Rattle.room_laws.proofs.stores.stores_law.Goals as goal

pub returns : goal.returns
returns c = all_stores
