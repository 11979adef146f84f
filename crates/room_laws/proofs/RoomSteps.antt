-- A room's own step: its contents as a function of its words, before and after a command of its own.
use Rattle.std.proofs.Common.{◌≡◌, ℕ, sym, ap, ◌∙◌, subst}
use Rattle.seq_object.specs.Object.{Contents, contents_after, part_of}
use Rattle.seq_object.proofs.Rooms.{own_room}
use Rattle.room_model.specs.Writes.{written, writes_of}
use Rattle.room_model.specs.Walks.{contents_of}
use Rattle.room_laws.specs.Commands.{RoomStepLaw}
use Rattle.room_laws.proofs.OneContents.{contents, stands_itself}
use Rattle.room_laws.proofs.AllRows.{command_after}

-- the law on a room's own step
pub room_step : RoomStepLaw
room_step layout z room r command laid capacity pos own mine =
    let c = contents_of layout z room r in
    let next = written r (writes_of layout z r command) in
    let after = command_after layout z room r c command laid capacity pos own mine in
    let itself : c ≡ part_of z room c = contents layout z room r c laid own in
    let part : part_of z room (contents_after z c command) ≡ contents_after z (part_of z room c) command =
    subst (λ (n : ℕ). part_of z n (contents_after z c command) ≡ contents_after z (part_of z n c) command) mine (own_room z pos c command) in
    record {
      stands = stands_itself layout z room next (contents_after z c command) laid after;
      holds = contents layout z room next (contents_after z c command) laid after ∙ part ∙ sym (ap (λ (d : Contents). contents_after z d command) itself);
    }
