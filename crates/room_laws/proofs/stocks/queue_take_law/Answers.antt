use Rattle.room_laws.proofs.StockLaws.{queue_take_law}
use Rattle.room_laws.proofs.stocks.queue_take_law.Goals as goal

pub returns : goal.returns
returns c = queue_take_law
