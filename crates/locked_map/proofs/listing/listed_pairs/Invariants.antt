use Rattle.std.proofs.Common.{◌≡◌, length}
use Rattle.std.specs.FinMap.{from_entries, empty}
use Rattle.line_memory.specs.Line.{bank_load}
use Rattle.room_model.specs.MapRoom.{layout_of}
use Rattle.room_model.specs.Walks.{pairs_below}
use Rattle.locked_map.specs.Listing.{with_all, AreWalks}
use Rattle.seq_object.specs.declared.sizes.Sizes.{Sizes}
use Rattle.locked_map.proofs.listing.listed_pairs.Given as goal

abbrev pub invariant-loop-bucket : goal.invariant-loop-bucket
invariant-loop-bucket l = (z : Sizes) → z.lines ≡ length l.cells.bank.lines → AreWalks (layout_of l.heads) (length l.cells.bank.lines) (bank_load l.cells.bank)
    → from_entries l.pairs.entries ≡ with_all empty (pairs_below (layout_of l.heads) z (bank_load l.cells.bank) l.bucket)
