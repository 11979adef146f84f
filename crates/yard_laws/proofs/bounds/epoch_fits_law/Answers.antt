use Rattle.yard_laws.proofs.Epochs.{epoch_fits}
use Rattle.yard_laws.proofs.bounds.epoch_fits_law.Goals as goal

pub returns : goal.returns
returns c = epoch_fits
