use Rattle.life_laws.proofs.Steps.{room_by_room_life}
use Rattle.life_laws.proofs.life.room_by_room_life_law.Goals as goal

pub returns : goal.returns
returns c = room_by_room_life
