use Rattle.room_laws.proofs.Apart.{map_chains}
use Rattle.room_laws.proofs.stocks.map_chains_law.Goals as goal

pub returns : goal.returns
returns c = map_chains
