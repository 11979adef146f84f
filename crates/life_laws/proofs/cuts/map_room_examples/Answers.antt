use Rattle.life_laws.proofs.TriedRooms.{maps_tried}
use Rattle.life_laws.proofs.cuts.map_room_examples.Goals as goal

pub returns : goal.returns
returns c = maps_tried
