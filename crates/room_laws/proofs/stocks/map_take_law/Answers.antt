use Rattle.room_laws.proofs.StockLaws.{map_take_law}
use Rattle.room_laws.proofs.stocks.map_take_law.Goals as goal

pub returns : goal.returns
returns c = map_take_law
