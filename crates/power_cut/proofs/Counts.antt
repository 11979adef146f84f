-- How many lines rooms have together.
use Rattle.std.proofs.Common.{◌≡◌, ℕ, zero, suc, ◌+◌, ◌*◌, ◌-◌, ◌<◌, ◌≤◌, List, [], ◌∷◌, length, get_or, ap, sym, ◌∙◌, arith, ◌^◌, add-one, add-zero, zero-add, add_comm, mul-le-mul, length-append}
use Rattle.std.proofs.lemmas.List.{length-map}
use Rattle.std.proofs.Math.Nat.{suc-mul}
use Rattle.std.proofs.lemmas.Bool.Decides.{nat_tests}
use Rattle.std.proofs.lemmas.List.Concat.{flat_map-cons}
use Rattle.line_memory.specs.Line.{all_lines, quiet_line}
use Rattle.seq_object.specs.Sizes.{AreValid, room_count, line_count, line_total}
use Rattle.room_model.specs.Image.{HasShape}
use Rattle.power_cut.specs.Image.{HaveWords}
use Rattle.power_cut.specs.Bytes.{room_bytes, rooms_bytes}
use Rattle.power_cut.specs.Cut.{quiet_memory}
use Rattle.power_cut.proofs.Each.{All-first, All-others}
use Rattle.power_cut.proofs.Spelling.{HasLines, length-room_bytes}
use Rattle.seq_object.specs.declared.sizes.Sizes.{Sizes}

-- how many lines so many rooms have, from this one on
abbrev pub lines_from : Sizes → ℕ → ℕ → ℕ
lines_from z room zero = 0
lines_from z room (suc n) = line_count z room + lines_from z (suc room) n

-- a map room and the queue room have the lines of the sizes
line_count-low : (z : Sizes) (room : ℕ) → room ≤ z.shards → line_count z room ≡ z.lines
line_count-low z room low = grind (arith, nat_tests)

-- a room past the queue room has one line
line_count-high : (z : Sizes) (room : ℕ) → z.shards < room → line_count z room ≡ 1
line_count-high z room high = grind (arith, nat_tests)

-- rooms past the queue room have one line each
lines_from-high : (z : Sizes) (room n : ℕ) → z.shards < room → lines_from z room n ≡ n
lines_from-high z room zero high = cc
lines_from-high z room (suc n) high = omega (arith, line_count-high z room high, lines_from-high z (suc room) n (omega arith))

-- rooms from one up to the queue room, and more
lines_from-low : (z : Sizes) (n : ℕ) (low room : ℕ) → room + low ≡ z.shards + 1 → lines_from z room (low + n) ≡ low * z.lines + n
lines_from-low z n zero room is =
    let start : zero + n ≡ n = omega arith in
    ap (lines_from z room) start ∙ lines_from-high z room n (omega arith) ∙ omega arith
lines_from-low z n (suc low) room is =
    let next : suc low + n ≡ suc (low + n) = omega arith in
    let later = lines_from-low z n low (suc room) (omega arith) in
    let own = line_count-low z room (omega arith) in
    let more : suc low * z.lines ≡ z.lines + low * z.lines = suc-mul low z.lines ∙ add_comm (low * z.lines) z.lines in
    ap (lines_from z room) next ∙ omega (arith, later, own, more)

-- all rooms
pub lines_from-all : (z : Sizes) → lines_from z 0 (room_count z) ≡ line_total z
lines_from-all z =
    let split : room_count z ≡ (z.shards + 1) + (z.threads + 1) = omega arith in
    ap (lines_from z 0) split ∙ lines_from-low z (z.threads + 1) (z.shards + 1) 0 (omega arith) ∙ omega arith

-- one room fewer is left
pub lines_from-step : (z : Sizes) (room n : ℕ) → room < n → lines_from z room (n - room) ≡ line_count z room + lines_from z (room + 1) (n - (room + 1))
lines_from-step z room n within =
    let next : n - room ≡ suc (n - (room + 1)) = omega arith in
    ap (lines_from z room) next ∙ ap (λ (r : ℕ). line_count z room + lines_from z r (n - (room + 1))) (sym (add-one room))

-- how many lines rooms have
abbrev pub lines_in : List (List (List ℕ)) → ℕ
lines_in [] = 0
lines_in (r ∷ rs) = length r + lines_in rs

-- rooms with the lines of their numbers have so many lines
lines_in-from : (z : Sizes) (rooms : List (List (List ℕ))) (room : ℕ) → ((r : ℕ) → r < length rooms → length (get_or rooms r []) ≡ line_count z (room + r)) → lines_in rooms ≡ lines_from z room (length rooms)
lines_in-from z [] room each = cc
lines_in-from z (r ∷ rs) room each =
    let own : length r ≡ line_count z room = each 0 (omega arith) ∙ ap (line_count z) (add-zero room) in
    let later = lines_in-from z rs (suc room) (λ k within. let place : room + suc k ≡ suc room + k = omega arith in each (suc k) (omega arith) ∙ ap (line_count z) place) in
    omega (arith, own, later)

-- the rooms of an image have as many lines as its sizes say
pub lines_in-shape : (z : Sizes) (rooms : List (List (List ℕ))) → HasShape z rooms → lines_in rooms ≡ line_total z
lines_in-shape z rooms shape =
    lines_in-from z rooms 0 (λ r within. shape.lines r (omega (arith, shape.rooms)) ∙ ap (line_count z) (sym (zero-add r)))
    ∙ ap (lines_from z 0) shape.rooms ∙ lines_from-all z

-- rooms have 64 bytes for each line
length-rooms : (rooms : List (List (List ℕ))) → HaveWords rooms → length (rooms_bytes rooms) ≡ 64 * lines_in rooms
length-rooms [] words = cc
length-rooms (r ∷ rs) words =
    ap length (flat_map-cons room_bytes r rs) ∙ length-append (room_bytes r) (rooms_bytes rs) ∙ omega (arith, length-room_bytes r (All-first HasLines r rs words), length-rooms rs (All-others HasLines r rs words))

-- the rooms of an image have 64 bytes for each line of its sizes
pub length-rooms_bytes : (z : Sizes) (rooms : List (List (List ℕ))) → HasShape z rooms → HaveWords rooms → length (rooms_bytes rooms) ≡ 64 * line_total z
length-rooms_bytes z rooms shape words = length-rooms rooms words ∙ ap (λ (n : ℕ). 64 * n) (lines_in-shape z rooms shape)

-- valid sizes have few lines
pub line_total-few : (z : Sizes) → AreValid z → line_total z < 2 ^ 24
line_total-few z valid =
    let shards : z.shards + 1 ≤ 9 = omega (arith, valid.few_shards) in
    let most : (z.shards + 1) * z.lines ≤ 9 * 65536 = mul-le-mul shards valid.few_lines in
    omega (arith, most, valid.few_threads)

-- a memory of these rooms has their lines
pub all_lines-quiet : (rooms : List (List (List ℕ))) → all_lines (quiet_memory rooms) ≡ lines_in rooms
all_lines-quiet [] = cc
all_lines-quiet (r ∷ rs) = omega (arith, all_lines-quiet rs, length-map r quiet_line)
