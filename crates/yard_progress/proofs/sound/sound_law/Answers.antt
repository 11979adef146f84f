use Rattle.yard_progress.proofs.Shown.{sound}
use Rattle.yard_progress.proofs.sound.sound_law.Goals as goal

pub returns : goal.returns
returns c = sound
