use Rattle.room_laws.proofs.AllRows.{other_command}
use Rattle.room_laws.proofs.commands.other_command_law.Goals as goal

pub returns : goal.returns
returns c = other_command
