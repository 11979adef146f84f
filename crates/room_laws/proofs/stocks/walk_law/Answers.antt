use Rattle.room_laws.proofs.StockLaws.{walk_law}
use Rattle.room_laws.proofs.stocks.walk_law.Goals as goal

pub returns : goal.returns
returns c = walk_law
