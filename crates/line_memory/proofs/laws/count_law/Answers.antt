use Rattle.line_memory.proofs.Counts.{all_write_backs_law}
use Rattle.line_memory.proofs.laws.count_law.Goals as goal

pub returns : goal.returns
returns c = all_write_backs_law
