use Rattle.room_laws.proofs.Apart.{queue_chains}
use Rattle.room_laws.proofs.stocks.queue_chains_law.Goals as goal

pub returns : goal.returns
returns c = queue_chains
