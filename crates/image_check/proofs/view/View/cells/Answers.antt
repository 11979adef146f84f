use Rattle.std.proofs.Common.{ap}
use Rattle.image_check.proofs.Views.{lines_in}
use Rattle.room_model.specs.Image.{triples_at}
use Rattle.image_check.proofs.view.View.cells.Goals as goal

pub returns-clause-words : goal.returns-clause-words
returns-clause-words c = ap (triples_at c.args.self.epoch) (lines_in c.args.self.rooms.now c.args.room c.as_slice.result.now c.index-self-room.result c.requires c.as_slice.ensures.value)
