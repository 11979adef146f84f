use Rattle.room_yard.proofs.Returned.{unlocks, goes_back}
use Rattle.room_yard.proofs.untouched.touch.Goals as goal

pub unlock-requires : goal.unlock-requires
unlock-requires g c = record { may = unlocks c.requires.may c.requires.running c.requires.shard c.in_ok-value.ensures.locked }

pub returns-clause-same : goal.returns-clause-same
returns-clause-same g c = goes_back c.requires.may c.requires.running c.requires.shard c.in_ok-value.ensures.locked c.unlock.ensures.done
