-- A recovery may be begun on the memory of an image that was checked, of epoch 1.
use Rattle.std.proofs.Common.{◌≡◌, ◌+◌, ◌<◌, ◌^◌, List, sym, ◌∙◌, ap, subst, arith}
use Rattle.seq_object.specs.declared.sizes.Sizes.{Sizes}
use Rattle.line_memory.specs.Line.{BankState}
use Rattle.room_model.specs.MapRoom.{live_layout}
use Rattle.room_model.specs.Image.{ImageRooms, image_of, nothing_kept, epoch_at, IsLawful}
use Rattle.power_cut.specs.Cut.{quiet_memory}
use Rattle.power_cut.proofs.Quiet.{image_of-quiet}
use Rattle.image_check.specs.declared.recovered.Recovered.{Recovered}
use Rattle.image_check.specs.Recovered.{IsRecovered}

-- the memory leaves the image
left_is : (rooms : ImageRooms) (memory : List BankState) → memory ≡ quiet_memory rooms → image_of memory nothing_kept ≡ rooms
left_is rooms memory is = ap (λ (m : List BankState). image_of m nothing_kept) is ∙ image_of-quiet rooms nothing_kept

-- which is lawful
pub lawful_image : (y z : Sizes) (rooms : ImageRooms) (found : Recovered) (memory : List BankState) → IsRecovered live_layout y rooms found → y ≡ z → memory ≡ quiet_memory rooms
    → IsLawful live_layout z (image_of memory nothing_kept)
lawful_image y z rooms found memory checked same is =
    subst (λ (s : Sizes). IsLawful live_layout s (image_of memory nothing_kept)) same
    (subst (λ (image : ImageRooms). IsLawful live_layout y image) (sym (left_is rooms memory is)) (checked.state, checked.lawful))

-- and whose epoch is not the last
pub low_epoch : (y z : Sizes) (rooms : ImageRooms) (found : Recovered) (memory : List BankState) → IsRecovered live_layout y rooms found → y ≡ z → memory ≡ quiet_memory rooms → found.epoch ≡ 1
    → epoch_at z (image_of memory nothing_kept) + 1 < 2 ^ 32
low_epoch y z rooms found memory checked same is one =
    let epoch : epoch_at z (image_of memory nothing_kept) ≡ 1 =
    ap (λ (s : Sizes). epoch_at s (image_of memory nothing_kept)) (sym same) ∙ ap (λ (image : ImageRooms). epoch_at y image) (left_is rooms memory is) ∙ sym checked.epoch ∙ one in
    omega (arith, epoch)
