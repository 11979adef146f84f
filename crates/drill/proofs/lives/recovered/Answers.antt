use Rattle.std.proofs.Common.{◌≡◌, ◌∙◌, Err, ap, sym, subst}
use Rattle.seq_object.specs.declared.sizes.Sizes.{Sizes}
use Rattle.seq_object.specs.Sizes.{sizes_of}
use Rattle.room_model.specs.MapRoom.{live_layout}
use Rattle.room_model.specs.Image.{ImageRooms, IsLawful}
use Rattle.power_cut.specs.Image.{sizes_in, rooms_in, AreWhole}
use Rattle.image_check.specs.Recovered.{IsRecovered}
use Rattle.drill.specs.Scripts.{drill_settings}
use Rattle.drill.proofs.LifeCalls.{of_lawful}
use Rattle.drill.proofs.lives.recovered.Goals as goal

pub check_image-requires : goal.check_image-requires
check_image-requires c = record {
  whole = of_lawful (AreWhole (sizes_in c.in_ok-image.image) (rooms_in c.in_ok-image.image)) c.settings.result c.args.memory.now c.settings.ensures c.requires (c.in_ok-image.ensures).whole;
}

pub returns-in-Ok : goal.returns-in-Ok
returns-in-Ok c =
    let sizes : sizes_in c.in_ok-image.image ≡ sizes_of drill_settings = (c.in_ok-image.ensures).sizes ∙ ap sizes_of c.settings.ensures in
    subst (λ (rooms : ImageRooms). IsRecovered live_layout (sizes_of drill_settings) rooms c.in-Ok.found) (c.in_ok-image.ensures).rooms
    (subst (λ (z : Sizes). IsRecovered live_layout z (rooms_in c.in_ok-image.image) c.in-Ok.found) sizes c.in-Ok.ensures.recovers)

pub unreachable-requires : goal.unreachable-requires
unreachable-requires c =
    let sizes : sizes_in c.in_ok-image.image ≡ sizes_of drill_settings = (c.in_ok-image.ensures).sizes ∙ ap sizes_of c.settings.ensures in
    let lawful : IsLawful live_layout (sizes_in c.in_ok-image.image) (rooms_in c.in_ok-image.image) =
    subst (λ (z : Sizes). IsLawful live_layout z (rooms_in c.in_ok-image.image)) (sym sizes) (subst (IsLawful live_layout (sizes_of drill_settings)) (sym (c.in_ok-image.ensures).rooms) c.requires) in
    c.in-Err-Fault.ensures.unlawful c.in-Err-Fault.field-0-0 (ap Err c.in-Err-Fault.field-0-is) lawful
