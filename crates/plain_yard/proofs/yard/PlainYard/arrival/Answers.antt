use Rattle.std.proofs.Common.{subst}
use Rattle.plain_yard.specs.Shown.{ShownYard, IsLawfulYard}
use Rattle.plain_yard.proofs.yard.PlainYard.arrival.Goals as goal

pub returns-clause-lawful : goal.returns-clause-lawful
returns-clause-lawful c = subst (λ (z : ShownYard). IsLawfulYard z) c.self.view_is c.self.invariant.lawful
