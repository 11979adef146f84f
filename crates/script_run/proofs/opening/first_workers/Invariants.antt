use Rattle.std.proofs.Common.{map}
use Rattle.life_model.specs.Life.{Opening}
use Rattle.script_run.specs.Starts.{IsAtPlaces, AreFirstWorkers}
use Rattle.script_run.proofs.opening.first_workers.Given as goal

abbrev pub invariant-loop-thread : goal.invariant-loop-thread
invariant-loop-thread l = (o : Opening) → IsAtPlaces l.fn.settings (map (λ s. s.items) l.fn.scripts) l.fn.places o → AreFirstWorkers o l.thread l.workers.items
