use Rattle.std.proofs.Common.{◌≡◌, length, map, take}
use Rattle.script_run.proofs.opening.lengths_of.Given as goal

abbrev pub invariant-loop-script : goal.invariant-loop-script
invariant-loop-script l = l.lengths.items ≡ map (λ s. length s.items) (take l.script-index l.scripts)
