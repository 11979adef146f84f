-- A choice on a test, by its cases.
use Rattle.std.proofs.Common.{◌≡◌, ℕ, ◌≢◌, ◌==◌, Bool, true, false, refl, sym, subst, inl, inr}
use Rattle.std.proofs.lemmas.Bool.Decides.{eqb_tells}

-- on a test of two numbers
pub by_test : (P : Bool → Type 0) (a b : ℕ) → (a ≡ b → P true) → (a ≢ b → P false) → P (a == b)
by_test P a b same other = elim (eqb_tells a b) [
  | inl h ↦ subst P (sym h.0) (same h.1)
  | inr h ↦ subst P (sym h.0) (other h.1)
]

-- on a truth value
pub by_Bool : (P : Bool → Type 0) (b : Bool) → (b ≡ true → P true) → (b ≡ false → P false) → P b
by_Bool P true is_true is_false = is_true refl
by_Bool P false is_true is_false = is_false refl
