use Rattle.incll_var.proofs.RestoreWriteBacks.{restore_asks, restore_write_backs}
use Rattle.incll_var.proofs.laws.restore_write_back_laws.Goals as goal

pub returns-clause-events : goal.returns-clause-events
returns-clause-events c = restore_asks

pub returns-clause-count : goal.returns-clause-count
returns-clause-count c = restore_write_backs
