use Rattle.room_laws.proofs.StockLaws.{map_bounds_law}
use Rattle.room_laws.proofs.stocks.map_bounds_law.Goals as goal

pub returns : goal.returns
returns c = map_bounds_law
