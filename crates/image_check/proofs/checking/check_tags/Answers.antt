use Rattle.std.proofs.Common.{ℕ, ◌<◌, subst, ap, sym, ◌∙◌}
use Rattle.seq_object.specs.Sizes.{super_room}
use Rattle.room_model.specs.Image.{epoch_at, lines_at}
use Rattle.image_check.specs.Cells.{rooms_of}
use Rattle.image_check.specs.ImageFaults.{room_tag_fault}
use Rattle.image_check.proofs.ImageChecks.{first_stays}
use Rattle.image_check.proofs.checking.check_tags.Goals as goal

pub returns-in-Some : goal.returns-in-Some
returns-in-Some c =
    let epoch = epoch_at c.args.view.sizes (rooms_of c.args.view) in
    sym (first_stays (λ room. room_tag_fault epoch room (lines_at (rooms_of c.args.view) room)) c.loop-room.room (super_room c.args.view.sizes) c.in-Some.fault c.loop-room.invariant
    (sym (sym c.in-Some.is ∙ c.check_room_tags.ensures ∙ ap (λ (e : ℕ). room_tag_fault e c.loop-room.room c.cells.result.lines.now) (c.cells.ensures.epoch ∙ c.requires.epoch) ∙ ap (room_tag_fault epoch c.loop-room.room) c.cells.ensures.lines))
    (subst (λ (n : ℕ). c.loop-room.room < n) c.super_room-room-end.ensures c.loop-room-test.true))
