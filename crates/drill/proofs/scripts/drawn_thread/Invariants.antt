use Rattle.std.proofs.Common.{◌≡◌, ◌*◌}
use Rattle.store_order.specs.Choice.{state_after}
use Rattle.drill.specs.Scripts.{drawn_place, first_commands}
use Rattle.drill.proofs.scripts.drawn_thread.Given as goal

-- the commands so far, and the generator behind them
abbrev pub invariant-loop-index : goal.invariant-loop-index
invariant-loop-index l = record {
  commands : l.commands.items ≡ first_commands l.n l.thread l.index;
  drawn : l.words ≡ state_after (2 * drawn_place l.thread l.index) l.n;
}
