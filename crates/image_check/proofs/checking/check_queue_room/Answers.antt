use Rattle.std.proofs.Common.{◌≡◌, ℕ, Some, None, sym, subst}
use Rattle.room_model.specs.Image.{recovered_room}
use Rattle.image_check.specs.Cells.{rooms_of}
use Rattle.image_check.specs.ImageFaults.{fault_in}
use Rattle.image_check.specs.QueueFaults.{queue_fault}
use Rattle.image_check.proofs.ImageWalks.{room_found, room_fine}
use Rattle.image_check.proofs.Views.{shown}
use Rattle.image_check.proofs.checking.check_queue_room.Goals as goal

pub returns-in-Some : goal.returns-in-Some
returns-in-Some c =
    subst (λ (room : ℕ). Some c.in_room.result ≡ fault_in room (queue_fault c.args.view.sizes (recovered_room c.args.view.sizes (rooms_of c.args.view) room))) c.queue_room-room.ensures
    (room_found c.queue_room-room.result (queue_fault c.args.view.sizes (recovered_room c.args.view.sizes (rooms_of c.args.view) c.queue_room-room.result)) c.in_ok-fault.field-0 c.in-Some.fault c.in_room.result c.in-Some.is
    (shown c.args.view c.queue_room-room.result c.cells.result (λ z r. c.in_ok-fault.field-0 ≡ queue_fault z r) c.requires c.cells.ensures.words c.cells.ensures.sizes c.in_ok-fault.ensures) c.in_room.ensures)

pub returns-in-None : goal.returns-in-None
returns-in-None c =
    subst (λ (room : ℕ). None ≡ fault_in room (queue_fault c.args.view.sizes (recovered_room c.args.view.sizes (rooms_of c.args.view) room))) c.queue_room-room.ensures
    (sym (room_fine c.queue_room-room.result (queue_fault c.args.view.sizes (recovered_room c.args.view.sizes (rooms_of c.args.view) c.queue_room-room.result)) c.in_ok-fault.field-0 c.in-None.is
    (shown c.args.view c.queue_room-room.result c.cells.result (λ z r. c.in_ok-fault.field-0 ≡ queue_fault z r) c.requires c.cells.ensures.words c.cells.ensures.sizes c.in_ok-fault.ensures)))
