use Rattle.std.proofs.Common.{◌≡◌, ◌+◌, drop, map}
use Rattle.plain_yard.specs.Opening.{commands_in}
use Rattle.script_run.proofs.ending.commands_of.Given as goal

-- the sum so far and the commands of the scripts that are left
abbrev pub invariant-loop-script : goal.invariant-loop-script
invariant-loop-script l = l.count + commands_in (map (λ s. s.items) (drop l.script-index l.scripts)) ≡ commands_in (map (λ s. s.items) l.scripts)
