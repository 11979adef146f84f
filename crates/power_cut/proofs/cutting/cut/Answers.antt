use Rattle.seq_object.specs.Sizes.{sizes_of}
use Rattle.power_cut.specs.Image.{lists_of}
use Rattle.power_cut.specs.Cut.{choosing}
use Rattle.power_cut.proofs.Cuts.{image_of-shape}
use Rattle.power_cut.proofs.cutting.cut.Goals as goal

pub returns-clause-whole : goal.returns-clause-whole
returns-clause-whole c = λ valid has. record {
  valid = valid;
  shape = image_of-shape (sizes_of c.args.settings.now) c.args.memory.now (choosing c.args.choice.now c.args.memory.now) (lists_of c.in_ok-rooms.rooms.items) c.in_ok-rooms.ensures.kept has c.in_ok-rooms.ensures.words;
  words = c.in_ok-rooms.ensures.words;
}
