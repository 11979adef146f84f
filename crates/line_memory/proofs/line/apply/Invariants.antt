use Rattle.std.proofs.Common.{◌≡◌, drop}
use Rattle.line_memory.specs.Line.{applied}
use Rattle.line_memory.proofs.line.apply.Given as goal

-- the stores that are left make of the words so far what all make of the first
abbrev pub invariant-loop-store : goal.invariant-loop-store
invariant-loop-store l = applied l.words (drop l.store-index l.stores) ≡ applied l.fn.words l.stores
