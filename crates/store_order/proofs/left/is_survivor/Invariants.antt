use Rattle.std.proofs.Common.{◌≡◌, ◌≢◌, ℕ, ◌<◌}
use Rattle.line_memory.specs.Line.{survivor, line_at}
use Rattle.store_order.proofs.left.is_survivor.Given as goal

abbrev pub invariant-loop-k : goal.invariant-loop-k
invariant-loop-k l = record {
  made : l.now ≡ survivor (line_at l.bank.lines l.line) l.k;
  none : (j : ℕ) → j < l.k → l.words ≢ survivor (line_at l.bank.lines l.line) j;
}
