use Rattle.life_laws.proofs.TriedImages.{cells_tried}
use Rattle.life_laws.proofs.cuts.cell_examples.Goals as goal

pub returns : goal.returns
returns c = cells_tried
