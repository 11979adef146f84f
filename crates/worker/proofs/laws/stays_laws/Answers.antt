use Rattle.worker.proofs.Unchanged.{stays_behind_power, stays_behind_tick, stays_behind_off}
use Rattle.worker.proofs.laws.stays_laws.Goals as goal

pub returns-clause-power : goal.returns-clause-power
returns-clause-power c = stays_behind_power

pub returns-clause-tick : goal.returns-clause-tick
returns-clause-tick c = stays_behind_tick

pub returns-clause-off : goal.returns-clause-off
returns-clause-off c = stays_behind_off
