use Rattle.std.proofs.Common.{◌≡◌, length}
use Rattle.std.specs.FinMap.{from_entries}
use Rattle.line_memory.specs.Line.{bank_load}
use Rattle.room_model.specs.Walks.{IsWalk}
use Rattle.locked_map.proofs.Listings.{IsAdding}
use Rattle.locked_map.proofs.listing.add_chain.Given as goal

abbrev pub invariant-loop-line : goal.invariant-loop-line
invariant-loop-line l = (l.walk.word ≡ 2) × (IsWalk (bank_load l.cells.bank) (length l.cells.bank.lines) (length l.cells.bank.lines) l.first
    → IsAdding (bank_load l.cells.bank) (length l.cells.bank.lines) l.first (from_entries l.initial.pairs.entries) (from_entries l.pairs.entries) l.walk.left l.walk.line)

abbrev pub decreases-loop-line : goal.decreases-loop-line
decreases-loop-line l = l.walk.left
