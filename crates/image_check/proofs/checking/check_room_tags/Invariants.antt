use Rattle.std.proofs.Common.{◌≡◌, None}
use Rattle.image_check.specs.ImageFaults.{first_below, tag_fault}
use Rattle.image_check.proofs.checking.check_room_tags.Given as goal

abbrev pub invariant-loop-line : goal.invariant-loop-line
invariant-loop-line l = first_below (tag_fault l.cells.epoch l.room l.cells.lines.now) l.line ≡ None
