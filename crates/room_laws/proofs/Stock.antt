-- The lines that are given out, and those that are free: what a header says of a list of held lines.
use Rattle.std.proofs.Common.{◌≡◌, ℕ, ◌+◌, ◌<◌, ◌≤◌, ◌≢◌, ◌==◌, ◌&&◌, Bool, true, false, List, [], ◌∷◌, ◌++◌, length, arith, refl, ap, sym, ◌∙◌, subst, inl, inr, if◌then◌else◌, length-append}
use Rattle.std.proofs.lemmas.Bool.Decides.{eqb_tells, nat_tests}
use Rattle.std.proofs.lemmas.Bool.{ne_eqb, eqb-true, eqb-false}
use Rattle.room_model.specs.Chains.{IsChain, times, is_node, with_word, RoomWords}
use Rattle.room_model.specs.Writes.{taken_line, is_full, take_write}
use Rattle.seq_object.proofs.Totals.{total-same}
use Rattle.room_laws.proofs.Totals.{total-nodes, one_where}
use Rattle.room_laws.proofs.Lists.{times-append, times-here, length-by_times, chain_one}
use Rattle.seq_object.specs.declared.sizes.Sizes.{Sizes}

-- each line from first to fresh - 1 is held or free, once
pub record IsStock (first : ℕ) (z : Sizes) (held free : List ℕ) (r : RoomWords) : Type 0 where
  pub positive : 0 < first
  pub low : first ≤ r 0 1
  pub high : r 0 1 ≤ z.lines
  pub freed : IsChain (λ x. r x 0) (r 0 0) free
  pub each : (x : ℕ) → times x held + times x free ≡ (if is_node first (r 0 1) x then 1 else 0)

-- the header's fresh and free, where a line is taken
abbrev pub fresh_after : RoomWords → ℕ
fresh_after r = if r 0 0 == 0 then r 0 1 + 1 else r 0 1

-- the header's free, where a line is taken
abbrev pub free_after : RoomWords → ℕ
free_after r = if r 0 0 == 0 then r 0 0 else r (r 0 0) 0

-- line n is taken, and is in no list
pub record IsTaken (first : ℕ) (z : Sizes) (held : List ℕ) (r : RoomWords) (n fresh start : ℕ) : Type 0 where
  pub rest : List ℕ
  pub line_low : first ≤ n
  pub line_high : n < fresh
  pub fresh_low : first ≤ fresh
  pub fresh_high : fresh ≤ z.lines
  pub held_apart : times n held ≡ 0
  pub rest_apart : times n rest ≡ 0
  pub freed : IsChain (λ x. r x 0) start rest
  pub each : (x : ℕ) → times x (n ∷ held) + times x rest ≡ (if is_node first fresh x then 1 else 0)

-- a line that is counted is a node
pub node : (first fresh x n : ℕ) → 0 < n → n ≡ (if is_node first fresh x then 1 else 0) → (first ≤ x) × (x < fresh)
node first fresh x n pos h = (grind (arith, nat_tests), grind (arith, nat_tests))

-- a line is counted once at most
pub at_most_one : (b : Bool) (n : ℕ) → n ≡ (if b then 1 else 0) → n ≤ 1
at_most_one true n h = omega arith
at_most_one false n h = omega arith

-- what is held is a node
pub held_node : (first : ℕ) (z : Sizes) (held free : List ℕ) (r : RoomWords) → IsStock first z held free r → (x : ℕ) → 0 < times x held → (first ≤ x) × (x < r 0 1)
held_node first z held free r stock x pos = node first (r 0 1) x (times x held + times x free) (omega arith) (stock.each x)

-- what is free is a node
pub free_node : (first : ℕ) (z : Sizes) (held free : List ℕ) (r : RoomWords) → IsStock first z held free r → (x : ℕ) → 0 < times x free → (first ≤ x) × (x < r 0 1)
free_node first z held free r stock x pos = node first (r 0 1) x (times x held + times x free) (omega arith) (stock.each x)

-- one more line is given out
node_more : (first n x : ℕ) → first ≤ n → one_where (is_node first (n + 1) x) ≡ one_where (is_node first n x) + (if n == x then 1 else 0)
node_more first n x low = grind (arith, nat_tests)

-- the line at fresh was not given out
not_node : (first n : ℕ) → one_where (is_node first n n) ≡ 0
not_node first n = grind (arith, nat_tests)

-- where nothing is free, the line at fresh
from_fresh : (first : ℕ) (z : Sizes) (held free : List ℕ) (r : RoomWords) → IsStock first z held free r → r 0 0 ≡ 0 → r 0 1 < z.lines → IsTaken first z held r (r 0 1) (r 0 1 + 1) (r 0 0)
from_fresh first z held free r stock empty space =
    let none : free ≡ [] = chain_one (λ x. r x 0) (r 0 0) free [] stock.freed empty in
    let no : (x : ℕ) → times x free ≡ 0 = λ x. ap (times x) none in
    let out : times (r 0 1) held ≡ 0 = let a = stock.each (r 0 1) in let b = not_node first (r 0 1) in omega (arith, a, b) in
    record {
      rest = [];
      line_low = stock.low;
      line_high = omega arith;
      fresh_low = omega (arith, stock.low);
      fresh_high = omega arith;
      held_apart = out;
      rest_apart = refl;
      freed = empty;
      each = λ x. let a = stock.each x in let b = node_more first (r 0 1) x stock.low in let c = no x in omega (arith, a, b, c);
    }

-- else the first free line
from_free : (first : ℕ) (z : Sizes) (held free : List ℕ) (r : RoomWords) → IsStock first z held free r → r 0 0 ≢ 0 → IsTaken first z held r (r 0 0) (r 0 1) (r (r 0 0) 0)
from_free first z held [] r stock some = absurd (some stock.freed)
from_free first z held (n ∷ rest) r stock some =
    let is : r 0 0 ≡ n = stock.freed.0 in
    let one = times-here n rest in
    let count = at_most_one (is_node first (r 0 1) n) (times n held + times n (n ∷ rest)) (stock.each n) in
    let there = free_node first z held (n ∷ rest) r stock n (omega (arith, one)) in
    let taken : IsTaken first z held r n (r 0 1) (r n 0) = record {
      rest = rest;
      line_low = there.0;
      line_high = there.1;
      fresh_low = stock.low;
      fresh_high = stock.high;
      held_apart = omega (arith, one, count);
      rest_apart = omega (arith, one, count);
      freed = stock.freed.2;
      each = λ x. let a = stock.each x in omega (arith, a);
    } in
    subst (λ (k : ℕ). IsTaken first z held r k (r 0 1) (r k 0)) (sym is) taken

-- the line that is taken is in no list
pub take : (first : ℕ) (z : Sizes) (held free : List ℕ) (r : RoomWords) → IsStock first z held free r → is_full z.lines r ≡ false → IsTaken first z held r (taken_line r) (fresh_after r) (free_after r)
take first z held free r stock room = go (r 0 0 == 0) refl
  where
    go : (b : Bool) → b ≡ (r 0 0 == 0) → IsTaken first z held r (if b then r 0 1 else r 0 0) (if b then r 0 1 + 1 else r 0 1) (if b then r 0 0 else r (r 0 0) 0)
    go true is =
        let apart : (r 0 1 == z.lines) ≡ false = ap (λ (b : Bool). b && (r 0 1 == z.lines)) is ∙ room in
        from_fresh first z held free r stock (eqb-true (r 0 0) 0 (sym is)) (let ne = eqb-false (r 0 1) z.lines apart in let high = stock.high in omega (arith, ne, high))
    go false is = from_free first z held free r stock (eqb-false (r 0 0) 0 (sym is))

-- held and free lines are those from first to fresh - 1
pub stock_size : (first : ℕ) (z : Sizes) (held free : List ℕ) (r : RoomWords) → IsStock first z held free r → length held + length free + first ≡ r 0 1
stock_size first z held free r stock =
    let both : (x : ℕ) → times x (held ++ free) ≡ (if is_node first (r 0 1) x then 1 else 0) = λ x. times-append x held free ∙ stock.each x in
    let below : (x : ℕ) → 0 < times x (held ++ free) → x < r 0 1 = λ x t. (node first (r 0 1) x (times x (held ++ free)) t (both x)).1 in
    let counted = length-by_times (r 0 1) (held ++ free) below in
    let nodes = total-same (λ x. if is_node first (r 0 1) x then 1 else 0) (λ x. times x (held ++ free)) (r 0 1) (λ x lt. both x) in
    let all = total-nodes first (r 0 1) (r 0 1) stock.low (omega arith) in
    let parts : length (held ++ free) ≡ length held + length free = length-append held free in
    omega (arith, counted, nodes, all, parts)

-- full, exactly by the count of what is held
pub full_tells : (first : ℕ) (z : Sizes) (held free : List ℕ) (r : RoomWords) → IsStock first z held free r → is_full z.lines r ≡ (length held + first == z.lines)
full_tells first z held free r stock =
    let size = stock_size first z held free r stock in
    elim (eqb_tells (r 0 0) 0) [
      | inl h ↦
          let none : length free ≡ 0 = ap length (chain_one (λ x. r x 0) (r 0 0) free [] stock.freed h.1) in
          let same : length held + first ≡ r 0 1 = omega (arith, size, none) in
          ap (λ (b : Bool). b && (r 0 1 == z.lines)) h.0 ∙ ap (λ (k : ℕ). k == z.lines) (sym same)
      | inr h ↦
          let some : 0 < length free = long free h.1 stock.freed in
          let less : length held + first ≢ z.lines = λ e. let high = stock.high in omega (arith, e, size, some, high) in
          ap (λ (b : Bool). b && (r 0 1 == z.lines)) h.0 ∙ sym (ne_eqb (length held + first) z.lines less)
    ]
  where
    long : (xs : List ℕ) → r 0 0 ≢ 0 → IsChain (λ x. r x 0) (r 0 0) xs → 0 < length xs
    long [] some h = absurd (some h)
    long (x ∷ xs) some h = omega arith

-- what the write that takes a line changes in the header, and that it changes nothing else
pub record TakesLine (r q : RoomWords) : Type 0 where
  pub free : q 0 0 ≡ free_after r
  pub fresh : q 0 1 ≡ fresh_after r
  pub count : q 0 2 ≡ r 0 2
  pub others : (x w : ℕ) → x ≢ 0 → q x w ≡ r x w

-- the write that takes a line does just that
pub take_written : (r : RoomWords) → TakesLine r (with_word r (take_write r).line (take_write r).word (take_write r).value)
take_written r = elim (eqb_tells (r 0 0) 0) [
  | inl h ↦ record { free = grind (arith, nat_tests); fresh = grind (arith, nat_tests); count = grind (arith, nat_tests); others = λ x w ne. grind (arith, nat_tests) }
  | inr h ↦ record { free = grind (arith, nat_tests); fresh = grind (arith, nat_tests); count = grind (arith, nat_tests); others = λ x w ne. grind (arith, nat_tests) }
]
