use Rattle.life_laws.proofs.TriedCuts.{cuts_tried}
use Rattle.life_laws.proofs.cuts.epoch_write_examples.Goals as goal

pub returns : goal.returns
returns c = cuts_tried
