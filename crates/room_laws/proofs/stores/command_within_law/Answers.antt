use Rattle.room_laws.proofs.Planned.{command_within}
use Rattle.room_laws.proofs.stores.command_within_law.Goals as goal

pub returns : goal.returns
returns c = command_within
