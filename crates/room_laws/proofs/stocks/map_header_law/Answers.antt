use Rattle.room_laws.proofs.StockLaws.{map_header_law}
use Rattle.room_laws.proofs.stocks.map_header_law.Goals as goal

pub returns : goal.returns
returns c = map_header_law
