use Rattle.life_laws.proofs.FewLines.{few_lines}
use Rattle.life_laws.proofs.work.few_lines_law.Goals as goal

pub returns : goal.returns
returns c = few_lines
