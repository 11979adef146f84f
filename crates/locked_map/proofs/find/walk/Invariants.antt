use Rattle.std.proofs.Common.{◌≡◌, length}
use Rattle.line_memory.specs.Line.{bank_load}
use Rattle.locked_map.proofs.Finding.{IsFinding}
use Rattle.locked_map.proofs.find.walk.Given as goal

abbrev pub invariant-loop-line : goal.invariant-loop-line
invariant-loop-line l = (l.walk.word ≡ 2) × IsFinding (bank_load l.cells.bank) (length l.cells.bank.lines) l.key l.first l.walk.left l.before l.walk.line

abbrev pub decreases-loop-line : goal.decreases-loop-line
decreases-loop-line l = l.walk.left
