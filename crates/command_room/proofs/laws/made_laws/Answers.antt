use Rattle.command_room.proofs.Made.{none_made, one_more_made, all_made}
use Rattle.command_room.proofs.laws.made_laws.Goals as goal

pub returns-clause-none : goal.returns-clause-none
returns-clause-none c = none_made

pub returns-clause-one_more : goal.returns-clause-one_more
returns-clause-one_more c = one_more_made

pub returns-clause-all : goal.returns-clause-all
returns-clause-all c = all_made
