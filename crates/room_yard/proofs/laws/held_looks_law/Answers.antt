use Rattle.room_yard.proofs.Looks.{held_looks}
use Rattle.room_yard.proofs.laws.held_looks_law.Goals as goal

pub returns : goal.returns
returns c = held_looks
