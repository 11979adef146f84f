use Rattle.room_yard.proofs.Looks.{leave_rest_looks}
use Rattle.room_yard.proofs.laws.leave_rest_looks_law.Goals as goal

pub returns : goal.returns
returns c = leave_rest_looks
