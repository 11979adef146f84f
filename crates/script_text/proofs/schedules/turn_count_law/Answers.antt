use Rattle.script_text.proofs.ScheduleLaws.{turn_count_law}
use Rattle.script_text.proofs.schedules.turn_count_law.Goals as goal

pub returns : goal.returns
returns c = turn_count_law
