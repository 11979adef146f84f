-- A recovery restores no more cells than there are lines, so its events and write-backs are few.
use Rattle.std.proofs.Common.{◌≡◌, ℕ, zero, suc, ◌+◌, ◌*◌, ◌<◌, ◌≤◌, ◌==◌, ap, ◌∙◌, arith, if◌then◌else◌}
use Rattle.std.proofs.Math.Nat.{mul-le-mul_left, suc-mul}
use Rattle.std.proofs.lemmas.Bool.Decides.{nat_tests}
use Rattle.std.proofs.lemmas.List.Sums.{count_by-le-length}
use Rattle.seq_object.specs.declared.sizes.Sizes.{Sizes}
use Rattle.seq_object.specs.Sizes.{AreValid, super_room, line_count, line_total}
use Rattle.seq_object.specs.History.{total}
use Rattle.seq_object.proofs.Totals.{total-le}
use Rattle.room_model.specs.Cell.{tag_of}
use Rattle.room_model.specs.Image.{ImageRooms, HasShape, lines_at, epoch_at}
use Rattle.life_model.specs.Work.{torn_cells_in, torn_cells, torn_rooms}
use Rattle.yard_laws.proofs.Epochs.{total_few}
use Rattle.recovery.specs.Recovering.{recovery_events}

-- THE LINES of the rooms below the super room.
lines_low : (z : Sizes) (room : ℕ) → room < z.shards + 1 → line_count z room ≡ z.lines
lines_low z room low = grind (arith, nat_tests)

line_high : (z : Sizes) (i : ℕ) → line_count z (z.shards + 1 + i) ≡ 1
line_high z i = grind (arith, nat_tests)

total_low : (z : Sizes) (n : ℕ) → n ≤ z.shards + 1 → total (line_count z) n ≡ n * z.lines
total_low z zero le = omega arith
total_low z (suc n) le =
    let before = total_low z n (omega (arith, le)) in
    let here = lines_low z n (omega (arith, le)) in
    let more : suc n * z.lines ≡ n * z.lines + z.lines = suc-mul n z.lines in
    omega (arith, before, here, more)

total_high : (z : Sizes) (i : ℕ) → total (line_count z) (z.shards + 1 + i) ≡ (z.shards + 1) * z.lines + i
total_high z zero =
    let first : z.shards + 1 + 0 ≡ z.shards + 1 = omega arith in
    let low = total_low z (z.shards + 1) (omega arith) in
    let none : (z.shards + 1) * z.lines ≡ (z.shards + 1) * z.lines + 0 = omega arith in
    ap (total (line_count z)) first ∙ low ∙ none
total_high z (suc i) =
    let next : z.shards + 1 + suc i ≡ suc (z.shards + 1 + i) = omega arith in
    let before = total_high z i in
    let here = line_high z i in
    let sum : total (line_count z) (suc (z.shards + 1 + i)) ≡ (z.shards + 1) * z.lines + suc i = omega (arith, before, here) in
    ap (total (line_count z)) next ∙ sum

all_but_one : (z : Sizes) → total (line_count z) (super_room z) + 1 ≡ line_total z
all_but_one z = let all = total_high z z.threads in omega (arith, all)

-- THE CELLS that are restored, and the rooms that have one.
module _ (z : Sizes) (image : ImageRooms) (shape : HasShape z image) where
  torn_in : (room : ℕ) → room < super_room z → torn_cells_in z image room ≤ line_count z room
  torn_in room lt =
      let few = count_by-le-length (λ words. tag_of words == epoch_at z image) (lines_at image room) in
      let lines = shape.lines room (omega (arith, lt)) in
      omega (arith, few, lines)

  pub torn_few : torn_cells z image + 1 ≤ line_total z
  torn_few =
      let each = total-le (torn_cells_in z image) (line_count z) (super_room z) torn_in in
      let all = all_but_one z in
      omega (arith, each, all)

  one_at_most : (n : ℕ) → (if n == 0 then 0 else 1) ≤ 1
  one_at_most n = grind (arith, nat_tests)

  rooms_few : torn_rooms z image ≤ super_room z
  rooms_few =
      let each = total_few (λ room. if torn_cells_in z image room == 0 then 0 else 1) 1 (super_room z) (λ room lt. one_at_most (torn_cells_in z image room)) in
      omega (arith, each)

  -- five events for each line are the most that a recovery has
  pub events_few : AreValid z → recovery_events z image ≤ 5 * line_total z
  events_few valid =
      let cells = torn_few in
      let rooms = rooms_few in
      let some : (z.shards + 1) * 1 ≤ (z.shards + 1) * z.lines = mul-le-mul_left (z.shards + 1) (let lines = valid.some_lines in omega (arith, lines)) in
      omega (arith, cells, rooms, some)
