use Rattle.line_memory.proofs.Survivors.{load_is_whole}
use Rattle.line_memory.proofs.laws.load_law.Goals as goal

pub returns : goal.returns
returns c = load_is_whole
