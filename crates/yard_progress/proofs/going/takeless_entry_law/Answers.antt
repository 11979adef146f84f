use Rattle.yard_progress.proofs.Rests.{takeless_entry}
use Rattle.yard_progress.proofs.going.takeless_entry_law.Goals as goal

pub returns : goal.returns
returns c = takeless_entry
