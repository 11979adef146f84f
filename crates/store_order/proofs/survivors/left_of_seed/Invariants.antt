use Rattle.std.proofs.Common.{◌≡◌, ◌+◌, ◌++◌, drop}
use Rattle.room_model.specs.Image.{surviving_lines}
use Rattle.store_order.specs.Choice.{kept_of, state_after}
use Rattle.store_order.specs.declared.choice.Choice.TheVariants.{Seed}
use Rattle.store_order.proofs.survivors.left_of_seed.Given as goal

abbrev pub invariant-loop-line : goal.invariant-loop-line
invariant-loop-line l = record {
  words : l.words ≡ state_after (l.first + l.line) l.seed;
  made : l.made.items ++ surviving_lines (kept_of (Seed l.seed) l.first l.bank.lines) l.line (drop l.line l.bank.lines) ≡ surviving_lines (kept_of (Seed l.seed) l.first l.bank.lines) 0 l.bank.lines;
}
