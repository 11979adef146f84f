use Rattle.room_laws.proofs.RoomSteps.{room_step}
use Rattle.room_laws.proofs.commands.room_step_law.Goals as goal

pub returns : goal.returns
returns c = room_step
