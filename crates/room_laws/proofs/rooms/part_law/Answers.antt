use Rattle.room_laws.proofs.OneContents.{parts}
use Rattle.room_laws.proofs.rooms.part_law.Goals as goal

pub returns : goal.returns
returns c = parts
