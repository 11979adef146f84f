-- The slots of a closed table are emptied one after the other.
use Rattle.std.proofs.Common.{◌≡◌, ◌≢◌, ℕ, zero, suc, ◌+◌, ◌<◌, ◌≤◌, Bool, true, false, List, [], ◌∷◌, ◌++◌, length, map, take, set, get_or, sym, refl, ap, ◌∙◌, arith, Option, Some, None, append-nil}
use Rattle.std.specs.Prelude.{option_to_list}
use Rattle.std.specs.List.{flat_map}
use Rattle.std.proofs.lemmas.List.{get_or-set_same, get_or-set_other}
use mathlib.Core.Option.{some, some-injective, some-ne-none}
use mathlib.Core.Logic.{dite}
use native.Mathlib.Decide.{ℕ_discrete}
use lib.ListN.{get_elem?}
use Rattle.yard_laws.proofs.Lists.{at_inside}
use Rattle.room_yard.proofs.Gathered.{flat_map_more}

-- what lies at a place
pub index_is : {A : Type 0} (l : List A) (i : ℕ) (d x : A) → get_elem? l i ≡ some x → get_or l i d ≡ x
index_is [] i d x e = absurd (some-ne-none x (sym e))
index_is (y ∷ ys) zero d x e = some-injective y x e
index_is (y ∷ ys) (suc i) d x e = index_is ys i d x e

-- one more slot is emptied, and those behind it are still full
module _ (fs : List Bool) (i n : ℕ) (counts : n ≡ length fs) (inside : i < n) where
  pub emptied_more : ((k : ℕ) → k < i → get_or fs k false ≡ false) → (k : ℕ) → k < i + 1 → get_or (set fs i false) k false ≡ false
  emptied_more before k lt = dite (ℕ_discrete k i) (λ (e : k ≡ i). ap (λ (k : ℕ). get_or (set fs i false) k false) e ∙ get_or-set_same fs i false false (omega (arith, counts, inside)))
      (λ (ne : k ≢ i). get_or-set_other fs i k false false ne ∙ before k (omega (arith, lt, ne)))

  pub full_still : ((k : ℕ) → i ≤ k → k < n → get_or fs k false ≡ true) → (k : ℕ) → i + 1 ≤ k → k < n → get_or (set fs i false) k false ≡ true
  full_still full k le lt = get_or-set_other fs i k false false (λ e. omega (arith, le, e)) ∙ full k (omega (arith, le)) lt

-- what was gathered of one slot more
module _ {A : Type 0} (l : List (Option A)) (i : ℕ) where
  pub gathered_more : (o : Option A) → get_elem? l i ≡ some o → flat_map option_to_list (take (i + 1) l) ≡ flat_map option_to_list (take i l) ++ option_to_list o
  gathered_more o e = flat_map_more option_to_list l i o (at_inside l i o e) ∙ ap (λ (o : Option A). flat_map option_to_list (take i l) ++ option_to_list o) (index_is l i o o e)

  pub gathered_none : (o : Option A) → ((x : A) → o ≡ Some x → ⊥) → get_elem? l i ≡ some o → flat_map option_to_list (take (i + 1) l) ≡ flat_map option_to_list (take i l)
  gathered_none (Some x) not e = absurd (not x refl)
  gathered_none None not e = gathered_more None e ∙ append-nil (flat_map option_to_list (take i l))

-- values that were put into slots are gathered again
module _ {A : Type 0} where
  gathered_again : (xs : List A) → flat_map option_to_list (map Some xs) ≡ xs
  gathered_again [] = refl
  gathered_again (x ∷ xs) = ap (λ (l : List A). x ∷ l) (gathered_again xs)

  pub come_back : (xs gathered : List A) (slots slotted : List (Option A)) → gathered ≡ flat_map option_to_list slots → slots ≡ slotted → slotted ≡ map Some xs → gathered ≡ xs
  come_back xs gathered slots slotted e f g = e ∙ ap (λ (l : List (Option A)). flat_map option_to_list l) (f ∙ g) ∙ gathered_again xs
