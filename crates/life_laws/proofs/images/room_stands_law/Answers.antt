use Rattle.life_laws.proofs.Parts.{room_stands}
use Rattle.life_laws.proofs.images.room_stands_law.Goals as goal

pub returns : goal.returns
returns c = room_stands
