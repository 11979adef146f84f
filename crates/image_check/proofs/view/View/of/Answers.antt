use Rattle.std.proofs.Common.{ℕ, ap, ◌∙◌, get_or}
use Rattle.seq_object.specs.Sizes.{super_room}
use Rattle.image_check.proofs.Views.{some_super_line}
use Rattle.power_cut.specs.Image.{sizes_in}
use Rattle.image_check.proofs.view.View.of.Goals as goal

pub first_word-requires : goal.first_word-requires
first_word-requires c =
    some_super_line (sizes_in c.args.image.now) c.args.image.now.rooms.items c.as_slice-rooms.result.now c.as_slice-super_lines.result.now c.index-rooms-super_room.result c.requires.shape
    c.as_slice-rooms.ensures.value c.as_slice-super_lines.ensures.value (c.index-rooms-super_room.is ∙ ap (λ (room : ℕ). get_or c.as_slice-rooms.result.now room c.index-rooms-super_room.result) (c.super_room.ensures ∙ ap super_room c.sizes-sizes.ensures))
