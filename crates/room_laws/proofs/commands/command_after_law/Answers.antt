use Rattle.room_laws.proofs.AllRows.{command_after}
use Rattle.room_laws.proofs.commands.command_after_law.Goals as goal

pub returns : goal.returns
returns c = command_after
