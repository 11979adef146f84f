use Rattle.image_check.specs.Cells.{rooms_of, layout_of_view}
use Rattle.image_check.specs.Keyed.{pairs_in}
use Rattle.image_check.proofs.ImageWalks.{AreKept}
use Rattle.image_check.proofs.checking.check_maps.Given as goal

abbrev pub invariant-loop-room : goal.invariant-loop-room
invariant-loop-room l = AreKept (layout_of_view l.view) l.view.sizes (rooms_of l.view) l.room (pairs_in l.pairs.entries)
