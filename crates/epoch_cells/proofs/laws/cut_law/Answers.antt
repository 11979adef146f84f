use Rattle.epoch_cells.proofs.Cuts.{cut_law}
use Rattle.epoch_cells.proofs.laws.cut_law.Goals as goal

pub returns : goal.returns
returns c = cut_law c.survivor_laws.ensures.room c.survivor_laws.ensures.kept c.saved_laws.ensures.kept c.saved_laws.ensures.room c.stage_laws.ensures.survives c.epoch_laws.ensures.left c.epoch_laws.ensures.next
