use Rattle.room_laws.proofs.Pairs.{map_pairs_law}
use Rattle.room_laws.proofs.rooms.map_pairs_law.Goals as goal

pub returns : goal.returns
returns c = map_pairs_law
