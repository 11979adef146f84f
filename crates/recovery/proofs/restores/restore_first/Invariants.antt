use Rattle.recovery.proofs.Turns.{HasCome}
use Rattle.recovery.proofs.restores.restore_first.Given as goal

-- the restores of the rooms up to here are done
abbrev pub invariant-loop-room : goal.invariant-loop-room
invariant-loop-room l = HasCome l.fn.rooms l.rooms l.room-index
