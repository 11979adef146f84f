-- The rooms of an image in view.
use Rattle.std.proofs.Common.{◌≡◌, ℕ, ◌+◌, ◌<◌, nat_le, Bool, false, List, [], length, get_or, arith, ap, sym, ◌∙◌, subst, if◌then◌else◌}
use Rattle.std.specs.Global.{Vec}
use Rattle.std.proofs.lemmas.Bool.Decides.{nat_tests}
use Rattle.std.proofs.lemmas.List.{get_or-map, length-map}
use Rattle.seq_object.specs.Sizes.{super_room}
use Rattle.room_model.specs.Image.{ImageRooms as Rooms, HasShape, lines_at, recovered_room, triples_at}
use Rattle.room_model.specs.Chains.{RoomWords}
use Rattle.power_cut.specs.Image.{lists_of}
use Rattle.image_check.specs.declared.cells.Cells.{Cells}
use Rattle.image_check.specs.declared.view.View.{View}
use Rattle.image_check.specs.Cells.{words_of, rooms_of, IsView}
use Rattle.seq_object.specs.declared.sizes.Sizes.{Sizes}

-- the lines of a room in view
pub lines_in : (rooms : List (Vec (List ℕ))) (room : ℕ) (lines : List (List ℕ)) (other : Vec (List ℕ)) → room < length rooms → lines ≡ (get_or rooms room other).items → lines ≡ lines_at (lists_of rooms) room
lines_in rooms room lines other within is = is ∙ sym (get_or-map (λ (v : Vec (List ℕ)). v.items) rooms room other [] within)

above : (a b : ℕ) → b < a → nat_le a b ≡ false
above a b lt = grind (arith, nat_tests)

-- the super room has one line
pub super_line : (z : Sizes) (rooms : Rooms) → HasShape z rooms → length (lines_at rooms (super_room z)) ≡ 1
super_line z rooms shape = shape.lines (super_room z) (omega arith) ∙ ap (λ (b : Bool). if b then z.lines else 1) (above (super_room z) z.shards (omega arith))

-- the lines of the super room in view are not none
pub some_super_line : (z : Sizes) (rooms seen : List (Vec (List ℕ))) (lines : List (List ℕ)) (other : Vec (List ℕ)) → HasShape z (lists_of rooms) → seen ≡ rooms → lines ≡ other.items → other ≡ get_or seen (super_room z) other → 0 < length lines
some_super_line z rooms seen lines other shape same is at =
    let count : length rooms ≡ z.shards + 2 + z.threads = sym (length-map rooms (λ (v : Vec (List ℕ)). v.items)) ∙ shape.rooms in
    let items : lines ≡ (get_or rooms (super_room z) other).items = is ∙ ap (λ (v : Vec (List ℕ)). v.items) at ∙ ap (λ (vs : List (Vec (List ℕ))). (get_or vs (super_room z) other).items) same in
    let there : lines ≡ lines_at (lists_of rooms) (super_room z) = lines_in rooms (super_room z) lines other (omega (arith, count)) items in
    let one : length lines ≡ 1 = ap (λ (ls : List (List ℕ)). length ls) there ∙ super_line z (lists_of rooms) shape in
    omega (arith, one)

-- what holds of the cells of a room holds of the room as it recovers
pub shown : (view : View) (room : ℕ) (cells : Cells) (P : Sizes → RoomWords → Type 0) → IsView view → words_of cells ≡ triples_at view.epoch (lines_at (rooms_of view) room) → cells.sizes ≡ view.sizes
    → P cells.sizes (words_of cells) → P view.sizes (recovered_room view.sizes (rooms_of view) room)
shown view room cells P is words sizes h =
    subst (λ (epoch : ℕ). P view.sizes (triples_at epoch (lines_at (rooms_of view) room))) is.epoch
    (subst (P view.sizes) words (subst (λ (s : Sizes). P s (words_of cells)) sizes h))
