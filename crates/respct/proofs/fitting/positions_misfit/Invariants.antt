use Rattle.std.proofs.Common.{◌≡◌, None, map}
use Rattle.respct.specs.Misfits.{positions_misfit}
use Rattle.respct.proofs.fitting.positions_misfit.Given as goal

abbrev pub invariant-loop-thread : goal.invariant-loop-thread
invariant-loop-thread l = positions_misfit l.positions (map (λ commands. commands.items) l.scripts) l.thread ≡ None
