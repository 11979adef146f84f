use Rattle.std.proofs.Common.{◌≡◌, length, map}
use Rattle.script_run.proofs.Placed.{ArePlaces}
use Rattle.script_run.proofs.resuming.places_in.Given as goal

abbrev pub invariant-loop-thread : goal.invariant-loop-thread
invariant-loop-thread l = record {
  number : length l.places.items ≡ l.thread;
  places : ArePlaces l.fn.settings (map (λ s. s.items) l.fn.scripts) l.fn.memory l.thread l.places.items;
}
