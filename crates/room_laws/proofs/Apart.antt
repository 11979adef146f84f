-- Lists of lines, counted once over all or said list by list.
use Rattle.std.proofs.Common.{◌≡◌, ◌≢◌, ℕ, ◌+◌, ◌<◌, ◌≤◌, zero, suc, Bool, List, if◌then◌else◌, sym, ap, ◌∙◌, inl, inr, arith}
use Rattle.std.proofs.lemmas.Bool.{ne_eqb, cases_lt}
use Rattle.std.proofs.lemmas.Bool.Decides.{eqb_tells, nat_tests}
use Rattle.seq_object.specs.History.{total}
use Rattle.room_model.specs.Chains.{times, is_node}
use Rattle.room_laws.specs.Stocks.{AreApart, CountingLaw, map_lists, queue_lists, MapChainsLaw, QueueChainsLaw}
use Rattle.seq_object.proofs.Totals.{total-same, total_none}
use Rattle.room_laws.proofs.Totals.{one_where, total-part, total-two_parts, total-positive}
use Rattle.room_laws.proofs.Stock.{node, at_most_one}

-- a sum with one part of 1, whose other parts are 0
one_part : (f : ℕ → ℕ) (k n : ℕ) → k < n → f k ≡ 1 → ((j : ℕ) → j < n → k ≢ j → f j ≡ 0) → total f n ≡ 1
one_part f k zero lt one none = absurd (omega arith)
one_part f k (suc n) lt one none = elim (eqb_tells k n) [
  | inl h ↦
      let zeros : total f n ≡ 0 = total-same (λ j. 0) f n (λ j below. none j (omega arith) (λ e. omega (arith, e, h.1, below))) ∙ total_none n in
      let e : f n ≡ 1 = ap f (sym h.1) ∙ one in
      omega (arith, zeros, e)
  | inr h ↦
      let rest : total f n ≡ 1 = one_part f k n (omega (arith, h.1)) one (λ j below ne. none j (omega arith) ne) in
      let last : f n ≡ 0 = none n (omega arith) h.1 in
      omega (arith, rest, last)
]

-- a line that was given out is counted once
node_one : (first fresh x : ℕ) → first ≤ x → x < fresh → one_where (is_node first fresh x) ≡ 1
node_one first fresh x low high = grind (arith, nat_tests)

-- and another is not
node_none : (first fresh x : ℕ) → (first ≤ x → x < fresh → ⊥) → one_where (is_node first fresh x) ≡ 0
node_none first fresh x never = elim (cases_lt x fresh) [
  | inl high ↦ elim (cases_lt x first) [
    | inl low ↦ grind (arith, nat_tests)
    | inr low ↦ absurd (never low high)
  ]
  | inr high ↦ grind (arith, nat_tests)
]

-- from the counting to the lists one by one
pub said_apart : (first fresh : ℕ) (lists : ℕ → List ℕ) (n : ℕ) → ((x : ℕ) → total (λ k. times x (lists k)) n ≡ one_where (is_node first fresh x)) → AreApart first fresh lists n
said_apart first fresh lists n each = record {
  once = λ k x lt. let o = one x in let part = total-part (λ j. times x (lists j)) k n lt in omega (arith, o, part);
  apart = λ k j x lt lu ne some. let o = one x in let parts = total-two_parts (λ i. times x (lists i)) k j n lt lu ne in omega (arith, o, parts, some);
  low = λ k x lt some. (bounds k x lt some).0;
  high = λ k x lt some. (bounds k x lt some).1;
  all = λ x low high. let p = total-positive (λ k. times x (lists k)) n (let e = each x in let o = node_one first fresh x low high in omega (arith, e, o)) in (p.at, p.below, p.positive);
}
  where
    one : (x : ℕ) → total (λ k. times x (lists k)) n ≤ 1
    one x = at_most_one (is_node first fresh x) (total (λ k. times x (lists k)) n) (each x)

    bounds : (k x : ℕ) → k < n → 0 < times x (lists k) → (first ≤ x) × (x < fresh)
    bounds k x lt some = let part = total-part (λ j. times x (lists j)) k n lt in node first fresh x (total (λ j. times x (lists j)) n) (omega (arith, part, some)) (each x)

-- from the lists one by one to the counting
pub counted_once : (first fresh : ℕ) (lists : ℕ → List ℕ) (n : ℕ) → AreApart first fresh lists n → (x : ℕ) → total (λ k. times x (lists k)) n ≡ one_where (is_node first fresh x)
counted_once first fresh lists n a x = elim (cases_lt 0 (total (λ k. times x (lists k)) n)) [
  | inl some ↦
      let p = total-positive (λ k. times x (lists k)) n some in
      let one : times x (lists p.at) ≡ 1 = let o = a.once p.at x p.below in let pos = p.positive in omega (arith, o, pos) in
      one_part (λ k. times x (lists k)) p.at n p.below one (λ j below ne. a.apart p.at j x p.below below ne p.positive)
      ∙ sym (node_one first fresh x (a.low p.at x p.below p.positive) (a.high p.at x p.below p.positive))
  | inr none ↦
      let zero_sum : total (λ k. times x (lists k)) n ≡ 0 = omega (arith, none) in
      zero_sum ∙ sym (node_none first fresh x (λ low high. let there = a.all x low high in let part = total-part (λ k. times x (lists k)) there.0 n there.1 in let some = there.2 in omega (arith, part, some, zero_sum)))
]

-- the law on the counting of lines, both ways
pub counting : CountingLaw
counting = record { said = said_apart; back = counted_once }

-- the law on the lists of a map room
pub map_chains : MapChainsLaw
map_chains layout z shard r pairs room = said_apart layout.first (r 0 1) (map_lists room.chain room.free) 9 (λ x. all x ∙ room.each x)
  where
    all : (x : ℕ) → total (λ k. times x (map_lists room.chain room.free k)) 9 ≡ total (λ b. times x (room.chain b)) 8 + times x room.free
    all x = ap (λ (s : ℕ). s + times x room.free) (total-same (λ b. times x (room.chain b)) (λ k. times x (map_lists room.chain room.free k)) 8
        (λ k lt. ap (λ (q : Bool). times x (if q then room.free else room.chain k)) (ne_eqb k 8 (λ e. omega (arith, e, lt)))))

-- the law on the lists of the queue room
pub queue_chains : QueueChainsLaw
queue_chains z r items room = said_apart 2 (r 0 1) (queue_lists room.chain room.free) 2 (λ x. let e = room.each x in omega (arith, e))
