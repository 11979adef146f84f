use Rattle.rooms.proofs.Others.{command_lines, one_line}
use Rattle.rooms.proofs.laws.line_laws.Goals as goal

pub returns-clause-commands : goal.returns-clause-commands
returns-clause-commands c = command_lines

pub returns-clause-one : goal.returns-clause-one
returns-clause-one c = one_line
