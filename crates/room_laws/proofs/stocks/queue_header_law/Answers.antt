use Rattle.room_laws.proofs.StockLaws.{queue_header_law}
use Rattle.room_laws.proofs.stocks.queue_header_law.Goals as goal

pub returns : goal.returns
returns c = queue_header_law
