use Rattle.incll_var.proofs.Behind.{stored_loads, stored_behind}
use Rattle.incll_var.proofs.laws.plan_laws.Goals as goal

pub returns-clause-loads : goal.returns-clause-loads
returns-clause-loads c = stored_loads

pub returns-clause-stored : goal.returns-clause-stored
returns-clause-stored c = stored_behind
