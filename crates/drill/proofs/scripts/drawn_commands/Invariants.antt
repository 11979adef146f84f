use Rattle.std.proofs.Common.{◌≡◌, ◌*◌, map}
use Rattle.seq_object.specs.History.{counted_from}
use Rattle.store_order.specs.Choice.{state_after}
use Rattle.drill.specs.Scripts.{drawn_place, thread_commands}
use Rattle.drill.proofs.scripts.drawn_commands.Given as goal

-- the threads so far, and the generator behind their commands
abbrev pub invariant-loop-thread : goal.invariant-loop-thread
invariant-loop-thread l = record {
  threads : map (λ commands. commands.items) l.threads.items ≡ map (thread_commands l.n) (counted_from 0 l.thread);
  drawn : l.words ≡ state_after (2 * drawn_place l.thread 0) l.n;
}
