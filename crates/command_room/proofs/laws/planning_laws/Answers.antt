use Rattle.command_room.proofs.Plannings.{planning, writes_planned}
use Rattle.command_room.proofs.laws.planning_laws.Goals as goal

pub returns-clause-planning : goal.returns-clause-planning
returns-clause-planning c = planning

pub returns-clause-writes : goal.returns-clause-writes
returns-clause-writes c = writes_planned
