use Rattle.life_laws.proofs.TriedRooms.{layouts_tried}
use Rattle.life_laws.proofs.cuts.layout_examples.Goals as goal

pub returns : goal.returns
returns c = layouts_tried
