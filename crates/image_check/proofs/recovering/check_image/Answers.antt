use Rattle.std.proofs.Common.{◌≡◌, Some, ap, sym, ◌∙◌}
use Rattle.room_model.specs.MapRoom.{Layout, live_layout}
use Rattle.room_laws.proofs.MapLaws.{layouts}
use Rattle.power_cut.specs.Image.{rooms_in, sizes_in}
use Rattle.image_check.specs.Cells.{rooms_of}
use Rattle.image_check.specs.ImageFaults.{image_fault}
use Rattle.image_check.proofs.ImageChecks.{unlawful}
use Rattle.seq_object.specs.declared.sizes.Sizes.{Sizes}
use Rattle.image_check.proofs.recovering.check_image.Goals as goal

pub returns-in-Some-clause-unlawful : goal.returns-in-Some-clause-unlawful
returns-in-Some-clause-unlawful c = λ fault is lawful.
    let z = sizes_in c.args.image.now in
    let rooms = rooms_in c.args.image.now in
    let view = c.of-view.result in
    let found : image_fault live_layout z rooms ≡ Some c.in-Some.fault =
    sym (ap (λ (layout : Layout). image_fault layout view.sizes (rooms_of view)) c.of-view.ensures.layout
    ∙ ap (λ (y : Sizes). image_fault live_layout y (rooms_of view)) c.of-view.ensures.sizes ∙ ap (image_fault live_layout z) c.of-view.ensures.rooms)
    ∙ sym c.in_ok-fault.ensures.fault ∙ c.in-Some.is in
    unlawful live_layout z rooms c.in-Some.fault layouts.in_use found lawful

pub recovered-requires-clause-pairs : goal.recovered-requires-clause-pairs
recovered-requires-clause-pairs c = c.in_ok-fault.ensures.pairs c.in-None.is
