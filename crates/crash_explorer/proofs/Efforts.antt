-- How much was tried, step by step.
use Rattle.std.proofs.Common.{◌≡◌, ℕ, ◌+◌, ◌-◌, ◌^◌, Bool, true, false, ◌&&◌, min, ◌⊎◌, inl, inr, refl, ap, sym, ◌∙◌, arith}
use Rattle.crash_explorer.specs.declared.effort.Effort.{Effort}
use Rattle.crash_explorer.specs.Effort.{IsBoth, IsWithSurvivor, IsEffort}

-- two sums that stand still
min_sum : (n m t : ℕ) → min (min n t + min m t) t ≡ min (n + m) t
min_sum n m t = omega arith

min_one : (n m t : ℕ) → min (min n t + (1 + min m t)) t ≡ min (n + (1 + m)) t
min_one n m t = omega arith

-- both are so, or one is not
both_all : (a b : Bool) → (a && b) ≡ true → (a ≡ true) × (b ≡ true)
both_all true b e = (refl, e)
both_all false b e = cc

one_not : (a b : Bool) → (a && b) ≡ false → (a ≡ false) ⊎ (b ≡ false)
one_not true b e = inr e
one_not false b e = inl refl

-- whether both were all
pub joined_all : (a b c : Bool) (A B C : Type 0) → c ≡ (a && b) → (a ≡ true → A) → (b ≡ true → B) → (A → B → C) → c ≡ true → C
joined_all a b c A B C is whole more both holds = let e = both_all a b (sym is ∙ holds) in both (whole e.0) (more e.1)

pub joined_not : (a b c : Bool) (P Q R : Type 0) → c ≡ (a && b) → (a ≡ false → P) → (b ≡ false → Q) → (P → R) → (Q → R) → c ≡ false → R
joined_not a b c P Q R is part more left right fails = elim (one_not a b (sym is ∙ fails)) [
  | inl e ↦ left (part e)
  | inr e ↦ right (more e)
]

-- both of two
pub effort-both : (n m k : ℕ) (A B C P Q R : Type 0) (a b new : Effort) → IsEffort n A P a → IsEffort m B Q b → IsBoth a b new → n + m ≡ k → (A → B → C) → (P → R) → (Q → R) → IsEffort k C R new
effort-both n m k A B C P Q R a b new ea eb both is whole left right = record {
  survivors = both.survivors ∙ ap (λ (x : ℕ). min (x + b.survivors) (2 ^ 64 - 1)) ea.survivors ∙ ap (λ (x : ℕ). min (min n (2 ^ 64 - 1) + x) (2 ^ 64 - 1)) eb.survivors ∙ min_sum n m (2 ^ 64 - 1)
      ∙ ap (λ (x : ℕ). min x (2 ^ 64 - 1)) is;
  all = joined_all a.all b.all new.all A B C both.all ea.all eb.all whole;
  not_all = joined_not a.all b.all new.all P Q R both.all ea.not_all eb.not_all left right;
}

-- one more survivor
pub effort-survivor : (n m k : ℕ) (A B C P Q R : Type 0) (a b new : Effort) → IsEffort n A P a → IsEffort m B Q b → IsWithSurvivor a b new → n + (1 + m) ≡ k → (A → B → C) → (P → R) → (Q → R) → IsEffort k C R new
effort-survivor n m k A B C P Q R a b new ea eb more is whole left right = record {
  survivors = more.survivors ∙ ap (λ (x : ℕ). min (x + (1 + b.survivors)) (2 ^ 64 - 1)) ea.survivors ∙ ap (λ (x : ℕ). min (min n (2 ^ 64 - 1) + (1 + x)) (2 ^ 64 - 1)) eb.survivors ∙ min_one n m (2 ^ 64 - 1)
      ∙ ap (λ (x : ℕ). min x (2 ^ 64 - 1)) is;
  all = joined_all a.all b.all new.all A B C more.all ea.all eb.all whole;
  not_all = joined_not a.all b.all new.all P Q R more.all ea.not_all eb.not_all left right;
}

-- the same in other words
pub effort-as : (n k : ℕ) (A C P R : Type 0) (a : Effort) → IsEffort n A P a → n ≡ k → (A → C) → (P → R) → IsEffort k C R a
effort-as n k A C P R a ea is whole part = record {
  survivors = ea.survivors ∙ ap (λ (x : ℕ). min x (2 ^ 64 - 1)) is;
  all = λ yes. whole (ea.all yes);
  not_all = λ no. part (ea.not_all no);
}
