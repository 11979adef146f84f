use Rattle.std.proofs.Common.{◌≡◌, drop}
use Rattle.line_memory.specs.Asked.{AreWithin, fenced_at}
use Rattle.line_memory.proofs.bank.fence_each.Given as goal

abbrev pub invariant-loop-line : goal.invariant-loop-line
invariant-loop-line l = record {
  fenced : fenced_at (drop l.line-index l.asked) l.lines ≡ fenced_at l.asked l.initial.lines;
  within : AreWithin l.lines l.asked;
}
