use Rattle.replay_laws.proofs.GivenUp.{turns_off, none_holds}
use Rattle.replay_laws.proofs.ends.gives_up_laws.Goals as goal

pub returns-clause-one : goal.returns-clause-one
returns-clause-one c = turns_off

pub returns-clause-all : goal.returns-clause-all
returns-clause-all c = none_holds
