use Rattle.command_room.proofs.Plannings.{whole_stands}
use Rattle.command_room.proofs.Words.{same_contents}
use Rattle.command_room.proofs.laws.whole_laws.Goals as goal

pub returns-clause-whole : goal.returns-clause-whole
returns-clause-whole c = whole_stands

pub returns-clause-same : goal.returns-clause-same
returns-clause-same c = same_contents
