-- The events of a closing on all rooms.
use Rattle.std.proofs.Common.{◌≡◌, ℕ, zero, suc, ◌+◌, ◌-◌, ◌*◌, ◌<◌, ◌≤◌, Bool, cond, refl, ap, ◌∙◌, arith}
use Rattle.seq_object.specs.Sizes.{super_room, room_count, thread_room}
use Rattle.seq_object.specs.History.{total}
use Rattle.rooms.proofs.Others.{command_lines, one_line}
use Rattle.coordinator.specs.Closers.{most_on, least_on}
use Rattle.coordinator.specs.Laws.{MostEventsLaw, LeastEventsLaw}
use Rattle.coordinator.proofs.Ended.{eq_false, eq_true}
use Rattle.coordinator.proofs.Counts.{total_more, most_cells, least_cells, most_super, least_super}

-- a sum over a stretch of numbers of which each counts the same
stretch : (f : ℕ → ℕ) (c from n : ℕ) → ((r : ℕ) → from ≤ r → r < from + n → f r ≡ c) → total f (from + n) ≡ total f from + n * c
stretch f c from zero each = let e : from + 0 ≡ from = omega arith in ap (total f) e ∙ (omega arith)
stretch f c from (suc n) each =
    let e : from + suc n ≡ (from + n) + 1 = omega arith in
    let a = ap (total f) e in
    let b = total_more f (from + n) in
    let h = stretch f c from n (λ r low high. each r low (omega (arith, high))) in
    let k = each (from + n) (omega arith) (omega arith) in
    let m : suc n * c ≡ n * c + c = omega arith in
    omega (arith, a, b, h, k, m)

product : (n a b : ℕ) → n * (a + b) ≡ n * a + n * b
product zero a b = omega arith
product (suc n) a b =
    let h = product n a b in
    let x : suc n * (a + b) ≡ n * (a + b) + (a + b) = omega arith in
    let y : suc n * a ≡ n * a + a = omega arith in
    let w : suc n * b ≡ n * b + b = omega arith in
    omega (arith, h, x, y, w)

-- at most: each room of commands has the lines of the settings, each other one line
pub most_all : MostEventsLaw
most_all z =
    let commands = stretch (most_on z) (z.lines + 3) 0 (z.shards + 1) (λ r low high. most_cells z r (omega (arith, high)) ∙ ap (λ (n : ℕ). n + 3) (command_lines z r (omega (arith, high)))) in
    let threads = stretch (most_on z) 4 (z.shards + 1) z.threads (λ r low high. most_cells z r high ∙ ap (λ (n : ℕ). n + 3) (one_line z r (omega (arith, low)))) in
    let last = total_more (most_on z) (super_room z) in
    let five = most_super z (super_room z) refl in
    let zero_is : 0 + (z.shards + 1) ≡ z.shards + 1 = omega arith in
    let first = ap (total (most_on z)) zero_is in
    let count : room_count z ≡ super_room z + 1 = omega arith in
    let all = ap (total (most_on z)) count in
    let product : (z.shards + 1) * (z.lines + 3) ≡ (z.shards + 1) * z.lines + (z.shards + 1) * 3 = product (z.shards + 1) z.lines 3 in
    omega (arith, commands, threads, last, five, first, all, product)

-- at least: two for each room of cells, and two more for the closer's own
pub least_all : LeastEventsLaw
least_all z thread lt =
    let own : ℕ = thread_room z thread in
    let before = stretch (least_on z own) 2 0 own (λ r low high. least_cells z own r (omega (arith, high, lt)) ∙ ap (λ (b : Bool). cond b 4 2) (eq_false r own (λ e. omega (arith, e, high)))) in
    let its_own = total_more (least_on z own) own in
    let four = least_cells z own own (omega (arith, lt)) ∙ ap (λ (b : Bool). cond b 4 2) (eq_true own own refl) in
    let n : ℕ = z.threads - (thread + 1) in
    let behind = stretch (least_on z own) 2 (own + 1) n (λ r low high. least_cells z own r (omega (arith, high, lt)) ∙ ap (λ (b : Bool). cond b 4 2) (eq_false r own (λ e. omega (arith, e, low)))) in
    let zero_is : 0 + own ≡ own = omega arith in
    let first = ap (total (least_on z own)) zero_is in
    let up : own + 1 + n ≡ super_room z = omega (arith, lt) in
    let to_super = ap (total (least_on z own)) up in
    let last = total_more (least_on z own) (super_room z) in
    let five = least_super z own (super_room z) refl in
    let count : room_count z ≡ super_room z + 1 = omega arith in
    let all = ap (total (least_on z own)) count in
    omega (arith, before, its_own, four, behind, first, to_super, last, five, all, up)
