use Rattle.yard_laws.proofs.Looks.{tick_fits}
use Rattle.yard_laws.proofs.bounds.tick_fits_law.Goals as goal

pub returns : goal.returns
returns c = tick_fits
