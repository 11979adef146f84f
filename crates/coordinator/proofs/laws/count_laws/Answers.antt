use Rattle.coordinator.proofs.Totals.{most_all, least_all}
use Rattle.coordinator.proofs.laws.count_laws.Goals as goal

pub returns-clause-most : goal.returns-clause-most
returns-clause-most c = most_all

pub returns-clause-least : goal.returns-clause-least
returns-clause-least c = least_all
