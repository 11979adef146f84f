-- A memory with nothing pending, and that no two images share their bytes.
use Rattle.std.proofs.Common.{◌≡◌, ℕ, zero, suc, refl, ◌<◌, List, [], ◌∷◌, length, drop, map, ap, sym, ◌∙◌, arith}
use Rattle.line_memory.specs.Line.{survivor, line_at, quiet_line, IsQuiet}
use Rattle.seq_object.specs.Sizes.{room_count, line_count}
use Rattle.room_model.specs.Image.{ImageRooms as Rooms, KeptCounts as Choosing, surviving_lines, surviving_rooms, image_of}
use Rattle.power_cut.specs.Image.{AreWhole}
use Rattle.power_cut.specs.Bytes.{rooms_bytes, image_bytes_of, sizes_at}
use Rattle.power_cut.specs.Cut.{quiet_memory}
use Rattle.power_cut.proofs.Spelling.{rooms_bytes-one}
use Rattle.power_cut.proofs.Heads.{sizes_at-head, drop-head}
use Rattle.seq_object.specs.declared.sizes.Sizes.{Sizes}

-- a quiet line is left as it is
left-quiet : (l : List ℕ) (k : ℕ) → survivor (quiet_line l) k ≡ l
left-quiet l zero = refl
left-quiet l (suc k) = refl

-- quiet lines are left as they are
lines_left-quiet : (f : ℕ → ℕ) (i : ℕ) (lines : List (List ℕ)) → surviving_lines f i (map quiet_line lines) ≡ lines
lines_left-quiet f i [] = cc
lines_left-quiet f i (l ∷ ls) = ap (λ (words : List ℕ). words ∷ surviving_lines f (suc i) (map quiet_line ls)) (left-quiet l (f i)) ∙ ap (λ (rest : List (List ℕ)). l ∷ rest) (lines_left-quiet f (suc i) ls)

-- quiet rooms are left as they are
rooms_left-quiet : (choice : Choosing) (r : ℕ) (rooms : Rooms) → surviving_rooms choice r (quiet_memory rooms) ≡ rooms
rooms_left-quiet choice r [] = cc
rooms_left-quiet choice r (x ∷ xs) =
    ap (λ (lines : List (List ℕ)). lines ∷ surviving_rooms choice (suc r) (quiet_memory xs)) (lines_left-quiet (choice r) 0 x)
    ∙ ap (λ (rest : Rooms). x ∷ rest) (rooms_left-quiet choice (suc r) xs)

-- a quiet memory leaves its words under every choice
pub image_of-quiet : (rooms : Rooms) (choice : Choosing) → image_of (quiet_memory rooms) choice ≡ rooms
image_of-quiet rooms choice = rooms_left-quiet choice 0 rooms

-- nothing is pending in it
pub quiet_memory-quiet : (rooms : Rooms) → IsQuiet (quiet_memory rooms)
quiet_memory-quiet [] room line = refl
quiet_memory-quiet (x ∷ xs) zero line = quiet x line
  where
    quiet : (lines : List (List ℕ)) (line : ℕ) → (line_at (map quiet_line lines) line).pending ≡ []
    quiet [] line = refl
    quiet (l ∷ ls) zero = refl
    quiet (l ∷ ls) (suc line) = quiet ls line
quiet_memory-quiet (x ∷ xs) (suc room) line = quiet_memory-quiet xs room line

-- rooms of the same sizes with the same bytes are the same
same_rooms : (z y : Sizes) (rooms others : Rooms) → z ≡ y → AreWhole z rooms → AreWhole y others → rooms_bytes rooms ≡ rooms_bytes others → rooms ≡ others
same_rooms z y rooms others same whole right is =
    let many : length rooms ≡ length others = whole.shape.rooms ∙ ap room_count same ∙ sym right.shape.rooms in
    rooms_bytes-one rooms others many
    (λ r within.
    let own : r < room_count z = omega (arith, whole.shape.rooms) in
    let other : r < room_count y = omega (arith, right.shape.rooms, many) in
    whole.shape.lines r own ∙ ap (λ (x : Sizes). line_count x r) same ∙ sym (right.shape.lines r other))
    whole.words right.words is

-- images with the same bytes have the same sizes
same_sizes : (z y : Sizes) (rooms others : Rooms) → AreWhole z rooms → AreWhole y others → image_bytes_of z rooms ≡ image_bytes_of y others → z ≡ y
same_sizes z y rooms others whole right is =
    sym (sizes_at-head z (rooms_bytes rooms) whole.valid) ∙ ap sizes_at is ∙ sizes_at-head y (rooms_bytes others) right.valid

-- images with the same bytes are one
pub one_spelling : (z y : Sizes) (rooms others : Rooms) → AreWhole z rooms → AreWhole y others → image_bytes_of z rooms ≡ image_bytes_of y others → (z ≡ y) × (rooms ≡ others)
one_spelling z y rooms others whole right is =
    let same = same_sizes z y rooms others whole right is in
    let bytes : rooms_bytes rooms ≡ rooms_bytes others = sym (drop-head z (rooms_bytes rooms)) ∙ ap (drop 24) is ∙ drop-head y (rooms_bytes others) in
    (same, same_rooms z y rooms others same whole right bytes)
