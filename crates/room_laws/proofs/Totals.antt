-- Sums f 0 + .. + f (n - 1).
use Rattle.std.proofs.Common.{◌≡◌, ℕ, Bool, ◌+◌, ◌<◌, ◌≤◌, ◌≢◌, zero, suc, arith, refl, ap, inl, inr, if◌then◌else◌}
use Rattle.std.proofs.lemmas.Bool.Decides.{eqb_tells, nat_tests}
use Rattle.seq_object.specs.History.{total}
use Rattle.seq_object.proofs.Totals.{total-same}
use Rattle.room_model.specs.Chains.{is_node}

-- 1 where it is true, else 0
abbrev pub one_where : Bool → ℕ
one_where b = if b then 1 else 0

-- a sum in which one part is another
pub total-changed : (f g : ℕ → ℕ) (b n : ℕ) → b < n → ((c : ℕ) → c < n → c ≢ b → g c ≡ f c) → total g n + f b ≡ total f n + g b
total-changed f g b zero lt others = absurd (omega arith)
total-changed f g b (suc n) lt others = elim (eqb_tells n b) [
  | inl h ↦
      let same : total g n ≡ total f n = total-same f g n (λ c below. others c (omega arith) (λ e. omega (arith, h.1, e, below))) in
      let a : f n ≡ f b = ap f h.1 in
      let e : g n ≡ g b = ap g h.1 in
      omega (arith, same, a, e)
  | inr h ↦
      let front : total g n + f b ≡ total f n + g b = total-changed f g b n (omega (arith, h.1)) (λ c below. others c (omega arith)) in
      let last : g n ≡ f n = others n (omega arith) h.1 in
      omega (arith, front, last)
]

-- a part is at most the sum
pub total-part : (f : ℕ → ℕ) (b n : ℕ) → b < n → f b ≤ total f n
total-part f b zero lt = absurd (omega arith)
total-part f b (suc n) lt = elim (eqb_tells b n) [
  | inl h ↦ let e : f b ≡ f n = ap f h.1 in omega (arith, e)
  | inr h ↦ let front : f b ≤ total f n = total-part f b n (omega (arith, h.1)) in omega (arith, front)
]

-- two parts are at most the sum
pub total-two_parts : (f : ℕ → ℕ) (b c n : ℕ) → b < n → c < n → b ≢ c → f b + f c ≤ total f n
total-two_parts f b c zero lt lu ne = absurd (omega arith)
total-two_parts f b c (suc n) lt lu ne = elim (eqb_tells b n) [
  | inl h ↦ let e : f b ≡ f n = ap f h.1 in let rest : f c ≤ total f n = total-part f c n (omega (arith, h.1)) in omega (arith, e, rest)
  | inr h ↦ elim (eqb_tells c n) [
    | inl g ↦ let e : f c ≡ f n = ap f g.1 in let rest : f b ≤ total f n = total-part f b n (omega (arith, h.1)) in omega (arith, e, rest)
    | inr g ↦ let front : f b + f c ≤ total f n = total-two_parts f b c n (omega (arith, h.1)) (omega (arith, g.1)) ne in omega (arith, front)
  ]
]

-- a part that makes the sum positive
pub record IsPositivePart (f : ℕ → ℕ) (n : ℕ) : Type 0 where
  pub at : ℕ
  pub below : at < n
  pub positive : 0 < f at

-- a sum that is not 0 has a part that is not
pub total-positive : (f : ℕ → ℕ) (n : ℕ) → 0 < total f n → IsPositivePart f n
total-positive f zero pos = absurd (omega arith)
total-positive f (suc n) pos = elim (eqb_tells (f n) 0) [
  | inl h ↦ let p = total-positive f n (omega (arith, h.1)) in record { at = p.at; below = omega (arith, p.below); positive = p.positive }
  | inr h ↦ record { at = n; below = omega arith; positive = omega (arith, h.1) }
]

-- how many nodes there are
pub total-nodes : (first fresh n : ℕ) → first ≤ n → n ≤ fresh → total (λ x. if is_node first fresh x then 1 else 0) n + first ≡ n
total-nodes first fresh zero low high = omega arith
total-nodes first fresh (suc n) low high = elim (eqb_tells first (suc n)) [
  | inl h ↦ let none : total (λ x. if is_node first fresh x then 1 else 0) (suc n) ≡ 0 = no_nodes first fresh (suc n) (omega (arith, h.1)) in omega (arith, h.1, none)
  | inr h ↦
      let front = total-nodes first fresh n (omega (arith, h.1)) (omega arith) in
      let last : one_where (is_node first fresh n) ≡ 1 = here first fresh n (omega (arith, h.1)) (omega arith) in
      omega (arith, front, last)
]
  where
    here : (first fresh n : ℕ) → first ≤ n → n < fresh → one_where (is_node first fresh n) ≡ 1
    here first fresh n low high = grind (arith, nat_tests)

    none_here : (first fresh n : ℕ) → n < first → one_where (is_node first fresh n) ≡ 0
    none_here first fresh n low = grind (arith, nat_tests)

    no_nodes : (first fresh n : ℕ) → n ≤ first → total (λ x. if is_node first fresh x then 1 else 0) n ≡ 0
    no_nodes first fresh zero low = refl
    no_nodes first fresh (suc n) low = let front = no_nodes first fresh n (omega arith) in let last = none_here first fresh n (omega arith) in omega (arith, front, last)
