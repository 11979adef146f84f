use Rattle.room_laws.proofs.OneContents.{is_room}
use Rattle.room_laws.proofs.rooms.is_room_law.Goals as goal

pub returns : goal.returns
returns c = is_room
