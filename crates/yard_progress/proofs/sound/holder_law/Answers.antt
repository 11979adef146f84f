use Rattle.yard_progress.proofs.Shown.{holder}
use Rattle.yard_progress.proofs.sound.holder_law.Goals as goal

pub returns : goal.returns
returns c = holder
