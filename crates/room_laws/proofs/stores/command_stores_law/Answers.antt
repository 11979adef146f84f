use Rattle.room_laws.proofs.Planned.{command_stands}
use Rattle.room_laws.proofs.stores.command_stores_law.Goals as goal

pub returns : goal.returns
returns c = command_stands
