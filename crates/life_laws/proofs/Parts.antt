-- A room's part of the whole.
use Rattle.std.proofs.Common.{sym, subst}
use Rattle.room_model.specs.Rooms.{StandsFor}
use Rattle.seq_object.specs.History.{contents_at}
use Rattle.seq_object.proofs.Rooms.{room_after}
use Rattle.room_laws.proofs.OneContents.{parts}
use Rattle.life_laws.specs.ImageLaws.{RoomStandsLaw}

-- a room's part of the whole is what its own entries leave of its part
pub room_stands : RoomStandsLaw
room_stands layout z c h room r pos s =
    parts.whole layout z room r (contents_at z c h) (subst (StandsFor layout z room r) (sym (room_after z pos c h room)) s)
