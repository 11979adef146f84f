use Rattle.fresh_world.proofs.Worlds.{start_opening, start_begins}
use Rattle.fresh_world.proofs.laws.start_laws.Goals as goal

pub returns-clause-opening : goal.returns-clause-opening
returns-clause-opening c = start_opening

pub returns-clause-beginning : goal.returns-clause-beginning
returns-clause-beginning c = start_begins
