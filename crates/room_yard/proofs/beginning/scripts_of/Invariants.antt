use Rattle.std.proofs.Common.{◌≡◌, map, take}
use Rattle.room_yard.proofs.beginning.scripts_of.Given as goal

abbrev pub invariant-loop-script : goal.invariant-loop-script
invariant-loop-script l = l.copies ≡ map (λ s. s.items) (take l.script-index l.fn.scripts)
