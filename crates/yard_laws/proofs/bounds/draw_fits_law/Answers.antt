use Rattle.yard_laws.proofs.Clock.{draw_fits}
use Rattle.yard_laws.proofs.bounds.draw_fits_law.Goals as goal

pub returns : goal.returns
returns c = draw_fits
