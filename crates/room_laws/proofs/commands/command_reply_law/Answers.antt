use Rattle.room_laws.proofs.AllRows.{command_reply}
use Rattle.room_laws.proofs.commands.command_reply_law.Goals as goal

pub returns : goal.returns
returns c = command_reply
