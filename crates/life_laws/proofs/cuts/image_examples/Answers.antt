use Rattle.life_laws.proofs.TriedImages.{images_tried}
use Rattle.life_laws.proofs.cuts.image_examples.Goals as goal

pub returns : goal.returns
returns c = images_tried
