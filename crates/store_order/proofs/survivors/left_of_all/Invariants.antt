use Rattle.std.proofs.Common.{◌≡◌, ◌++◌, drop}
use Rattle.room_model.specs.Image.{surviving_lines}
use Rattle.store_order.specs.Choice.{kept_of}
use Rattle.store_order.specs.declared.choice.Choice.TheVariants.{All}
use Rattle.store_order.proofs.survivors.left_of_all.Given as goal

abbrev pub invariant-loop-line : goal.invariant-loop-line
invariant-loop-line l = l.made.items ++ surviving_lines (kept_of All 0 l.bank.lines) l.line (drop l.line l.bank.lines) ≡ surviving_lines (kept_of All 0 l.bank.lines) 0 l.bank.lines
