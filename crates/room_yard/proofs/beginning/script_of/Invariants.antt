use Rattle.std.proofs.Common.{◌≡◌, take}
use Rattle.room_yard.proofs.beginning.script_of.Given as goal

abbrev pub invariant-loop-command : goal.invariant-loop-command
invariant-loop-command l = l.copy ≡ take l.command-index l.fn.script
