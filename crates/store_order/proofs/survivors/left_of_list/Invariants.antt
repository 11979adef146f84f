use Rattle.std.proofs.Common.{◌≡◌, ◌++◌, drop}
use Rattle.room_model.specs.Image.{surviving_lines}
use Rattle.store_order.specs.Choice.{kept_of}
use Rattle.store_order.specs.declared.choice.Choice.TheVariants.{List as Listed}
use Rattle.store_order.proofs.survivors.left_of_list.Given as goal

abbrev pub invariant-loop-i : goal.invariant-loop-i
invariant-loop-i l = l.made.items ++ surviving_lines (kept_of (Listed l.entries) l.first l.bank.lines) l.i (drop l.i l.bank.lines) ≡ surviving_lines (kept_of (Listed l.entries) l.first l.bank.lines) 0 l.bank.lines
