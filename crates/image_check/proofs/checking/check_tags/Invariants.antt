use Rattle.std.proofs.Common.{◌≡◌, None}
use Rattle.room_model.specs.Image.{epoch_at, lines_at}
use Rattle.image_check.specs.Cells.{rooms_of}
use Rattle.image_check.specs.ImageFaults.{first_below, room_tag_fault}
use Rattle.image_check.proofs.checking.check_tags.Given as goal

abbrev pub invariant-loop-room : goal.invariant-loop-room
invariant-loop-room l = first_below (λ room. room_tag_fault (epoch_at l.view.sizes (rooms_of l.view)) room (lines_at (rooms_of l.view) room)) l.room ≡ None
