use Rattle.std.proofs.Common.{◌≡◌, ℕ, ◌-◌, ◌*◌, ◌<◌, ◌++◌, List, length, take, drop, get_or, ap, sym, ◌∙◌, arith, subst, length-drop}
use Rattle.std.proofs.lemmas.List.{take_all}
use Rattle.seq_object.specs.Sizes.{AreValid, line_total}
use Rattle.power_cut.specs.Image.{lists_of}
use Rattle.power_cut.specs.Bytes.{head_bytes, rooms_bytes, image_bytes_of, image_length, sizes_at}
use Rattle.power_cut.proofs.Heads.{IsFaultless, faultless, faultless-head}
use Rattle.power_cut.proofs.Quiet.{one_spelling}
use Rattle.seq_object.specs.declared.sizes.Sizes.{Sizes}
use Rattle.power_cut.proofs.reading.read_image.Goals as goal

-- what stands behind the head
after_head : (bytes : List ℕ) → take (length bytes - 24) (drop 24 bytes) ≡ drop 24 bytes
after_head bytes = take_all (length bytes - 24) (drop 24 bytes) (omega (arith, length-drop 24 bytes))

-- how long it is
length-after_head : (bytes : List ℕ) (z : Sizes) → IsFaultless bytes → z ≡ sizes_at bytes → length (take (length bytes - 24) (drop 24 bytes)) ≡ 64 * line_total z
length-after_head bytes z is same =
    let size : length bytes ≡ image_length z = is.size ∙ ap image_length (sym same) in
    ap (λ (xs : List ℕ). length xs) (after_head bytes) ∙ omega (arith, length-drop 24 bytes, size, is.long)

-- the bytes are the head and the words
spelled : (bytes : List ℕ) (z : Sizes) (rooms : List (List (List ℕ))) → IsFaultless bytes → z ≡ sizes_at bytes → ((i : ℕ) → get_or bytes i 0 < 256) → take (length bytes - 24) (drop 24 bytes) ≡ rooms_bytes rooms → bytes ≡ image_bytes_of z rooms
spelled bytes z rooms is same small words =
    faultless-head bytes is small
    ∙ ap (λ (y : Sizes). head_bytes y ++ drop 24 bytes) (sym same)
    ∙ ap (λ (xs : List ℕ). head_bytes z ++ xs) (sym (after_head bytes) ∙ words)

pub read_rooms-requires-clause-valid : goal.read_rooms-requires-clause-valid
read_rooms-requires-clause-valid c = subst AreValid (sym c.in-Ok.ensures.sizes) (faultless c.args.bytes.now c.in-Ok.ensures.faultless).valid

pub read_rooms-requires-clause-size : goal.read_rooms-requires-clause-size
read_rooms-requires-clause-size c = length-after_head c.args.bytes.now c.in-Ok.sizes (faultless c.args.bytes.now c.in-Ok.ensures.faultless) c.in-Ok.ensures.sizes

pub returns-clause-spelled : goal.returns-clause-spelled
returns-clause-spelled c =
    spelled c.args.bytes.now c.in-Ok.sizes (lists_of c.in_ok-rooms.rooms.items) (faultless c.args.bytes.now c.in-Ok.ensures.faultless) c.in-Ok.ensures.sizes (λ i. let fits = c.type_inv.bytes i in omega arith) c.in_ok-rooms.ensures.spelled

pub returns-clause-only : goal.returns-clause-only
returns-clause-only c = λ z rooms whole is.
    let own = spelled c.args.bytes.now c.in-Ok.sizes (lists_of c.in_ok-rooms.rooms.items) (faultless c.args.bytes.now c.in-Ok.ensures.faultless) c.in-Ok.ensures.sizes (λ i. let fits = c.type_inv.bytes i in omega arith) c.in_ok-rooms.ensures.spelled in
    one_spelling c.in-Ok.sizes z (lists_of c.in_ok-rooms.rooms.items) rooms c.in_ok-rooms.ensures.shape whole (sym own ∙ is)
