use Rattle.room_laws.proofs.Counts.{store_counts}
use Rattle.room_laws.proofs.stores.store_counts_law.Goals as goal

pub returns : goal.returns
returns c = store_counts
