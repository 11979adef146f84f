use Rattle.room_yard.proofs.Words.{leave_is_decided}
use Rattle.room_yard.proofs.laws.leave_is_decided_law.Goals as goal

pub returns : goal.returns
returns c = leave_is_decided
