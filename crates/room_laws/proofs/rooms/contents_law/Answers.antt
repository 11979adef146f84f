use Rattle.room_laws.proofs.OneContents.{contents}
use Rattle.room_laws.proofs.rooms.contents_law.Goals as goal

pub returns : goal.returns
returns c = contents
