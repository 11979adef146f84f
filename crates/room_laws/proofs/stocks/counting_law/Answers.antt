use Rattle.room_laws.proofs.Apart.{counting}
use Rattle.room_laws.proofs.stocks.counting_law.Goals as goal

pub returns : goal.returns
returns c = counting
