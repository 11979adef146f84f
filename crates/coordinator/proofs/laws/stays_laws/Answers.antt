use Rattle.coordinator.proofs.Stays.{stays_behind_power, stays_behind_tick}
use Rattle.coordinator.proofs.laws.stays_laws.Goals as goal

pub returns-clause-power : goal.returns-clause-power
returns-clause-power c = stays_behind_power

pub returns-clause-tick : goal.returns-clause-tick
returns-clause-tick c = stays_behind_tick
