use Rattle.yard_laws.proofs.Beginning.{opens_lawful}
use Rattle.yard_laws.proofs.beginnings.opens_law.Goals as goal

pub returns : goal.returns
returns c = opens_lawful
