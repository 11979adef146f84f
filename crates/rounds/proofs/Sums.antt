-- Sums over threads.
use Rattle.std.proofs.Common.{◌≡◌, ◌≢◌, ℕ, ◌+◌, ◌*◌, ◌<◌, ◌≤◌, ◌⊎◌, zero, suc, Bool, true, false, refl, sym, ap, subst, inl, inr, arith}
use Rattle.std.proofs.lemmas.Bool.Decides.{eqb_tells}
use Rattle.seq_object.specs.History.{total}
use Rattle.seq_object.proofs.Totals.{total-le, total-same, total_none}
use Rattle.life_model.specs.Work.{one_if}

pub total-add : (f g : ℕ → ℕ) (n : ℕ) → total (λ k. f k + g k) n ≡ total f n + total g n
total-add f g zero = omega arith
total-add f g (suc n) = let rest = total-add f g n in omega arith

pub total-times : (a : ℕ) (f : ℕ → ℕ) (n : ℕ) → total (λ k. a * f k) n ≡ a * total f n
total-times a f zero = omega arith
total-times a f (suc n) = let rest = total-times a f n in omega arith

pub total-const : (a n : ℕ) → total (λ k. a) n ≡ n * a
total-const a zero = omega arith
total-const a (suc n) = let rest = total-const a n in omega arith

-- a sum in which one part is another
pub total-moved : (f g : ℕ → ℕ) (b n : ℕ) → b < n → ((k : ℕ) → k ≢ b → g k ≡ f k) → total g n + f b ≡ total f n + g b
total-moved f g b zero lt others = absurd (omega arith)
total-moved f g b (suc n) lt others = elim (eqb_tells n b) [
  | inl h ↦
      let same : total g n ≡ total f n = total-same f g n (λ k below. others k (λ e. omega (arith, h.1, e, below))) in
      let last : g n ≡ g b = ap g h.1 in
      let here : f n ≡ f b = ap f h.1 in
      omega (arith, same, last, here)
  | inr h ↦
      let front : total g n + f b ≡ total f n + g b = total-moved f g b n (omega (arith, h.1)) others in
      let last : g n ≡ f n = others n h.1 in
      omega (arith, front, last)
]

-- one of two
pub which : (b : Bool) → (b ≡ true) ⊎ (b ≡ false)
which true = inl refl
which false = inr refl

-- what holds of one at most is counted once at most
pub one_at_most : (f : ℕ → Bool) (n : ℕ) → ((i j : ℕ) → i < n → j < n → f i ≡ true → f j ≡ true → i ≡ j) → total (λ k. one_if (f k)) n ≤ 1
one_at_most f zero same = omega arith
one_at_most f (suc n) same = elim (which (f n)) [
  | inl yes_here ↦
      let none : total (λ k. one_if (f k)) n ≡ total (λ k. 0) n =
      total-same (λ k. 0) (λ k. one_if (f k)) n (λ k lt. not_here k lt yes_here (which (f k))) in
      let last : one_if (f n) ≡ 1 = ap one_if yes_here in
      omega (arith, none, last, total_none n)
  | inr not_there ↦
      let front : total (λ k. one_if (f k)) n ≤ 1 = one_at_most f n (λ i j lt less. same i j (omega arith) (omega arith)) in
      let last : one_if (f n) ≡ 0 = ap one_if not_there in
      omega (arith, front, last)
]
  where
    not_here : (k : ℕ) → k < n → f n ≡ true → (f k ≡ true) ⊎ (f k ≡ false) → one_if (f k) ≡ 0
    not_here k lt here (inl e) = let q : k ≡ n = same k n (omega arith) (omega arith) e here in absurd (omega (arith, q, lt))
    not_here k lt here (inr e) = ap one_if e

-- a test that some number below a bound passes, or none
pub some_below : (f : ℕ → Bool) (n : ℕ) → ((i : ℕ) × (i < n) × (f i ≡ true)) ⊎ ((i : ℕ) → i < n → f i ≡ false)
some_below f zero = inr (λ i lt. absurd (omega arith))
some_below f (suc n) = elim (which (f n)) [
  | inl here ↦ inl (n, omega arith, here)
  | inr not_here ↦ elim (some_below f n) [
    | inl found ↦ inl (found.0, omega (arith, found.1), found.2)
    | inr none ↦ inr (λ i lt. elim (eqb_tells i n) [
      | inl h ↦ subst (λ (k : ℕ). f k ≡ false) (sym h.1) not_here
      | inr h ↦ none i (omega (arith, h.1, lt))
    ])
  ]
]

-- a part is no more than its sum
pub total-has : (f : ℕ → ℕ) (b n : ℕ) → b < n → f b ≤ total f n
total-has f b zero lt = absurd (omega arith)
total-has f b (suc n) lt = elim (eqb_tells b n) [
  | inl h ↦ let last : f b ≡ f n = ap f h.1 in omega (arith, last)
  | inr h ↦ let front : f b ≤ total f n = total-has f b n (omega (arith, h.1)) in omega (arith, front)
]

-- a sum of numbers that are no greater, of which one is smaller, is smaller
pub total-lt : (f g : ℕ → ℕ) (b n : ℕ) → b < n → f b + 1 ≤ g b → ((k : ℕ) → k < n → f k ≤ g k) → total f n + 1 ≤ total g n
total-lt f g b zero lt less each = absurd (omega arith)
total-lt f g b (suc n) lt less each = elim (eqb_tells b n) [
  | inl h ↦
      let front : total f n ≤ total g n = total-le f g n (λ k below. each k (omega arith)) in
      let last : f n + 1 ≤ g n = subst (λ (k : ℕ). f k + 1 ≤ g k) h.1 less in
      omega (arith, front, last)
  | inr h ↦
      let front : total f n + 1 ≤ total g n = total-lt f g b n (omega (arith, h.1)) less (λ k below. each k (omega arith)) in
      let last : f n ≤ g n = each n (omega arith) in
      omega (arith, front, last)
]
