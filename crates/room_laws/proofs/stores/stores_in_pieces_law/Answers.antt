use Rattle.room_laws.proofs.Planned.{in_pieces}
use Rattle.room_laws.proofs.stores.stores_in_pieces_law.Goals as goal

pub returns : goal.returns
returns c = in_pieces
