use Rattle.yard_laws.proofs.Note.{note_keeps}
use Rattle.yard_laws.proofs.steps.note_law.Goals as goal

pub returns : goal.returns
returns c = note_keeps
