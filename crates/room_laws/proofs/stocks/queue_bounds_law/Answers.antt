use Rattle.room_laws.proofs.StockLaws.{queue_bounds_law}
use Rattle.room_laws.proofs.stocks.queue_bounds_law.Goals as goal

pub returns : goal.returns
returns c = queue_bounds_law
