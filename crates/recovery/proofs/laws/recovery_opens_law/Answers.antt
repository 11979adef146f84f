use Rattle.recovery.proofs.Opens.{rooms_open}
use Rattle.recovery.proofs.Worlds.{world_opens}
use Rattle.recovery.proofs.laws.recovery_opens_law.Goals as goal

pub returns : goal.returns
returns c = record { rooms = rooms_open; world = world_opens }
