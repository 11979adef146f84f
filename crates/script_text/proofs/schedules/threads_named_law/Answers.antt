use Rattle.script_text.proofs.ScheduleLaws.{threads_named_law}
use Rattle.script_text.proofs.schedules.threads_named_law.Goals as goal

pub returns : goal.returns
returns c = threads_named_law
