-- The views that a life opens with, as one list.
use Rattle.std.proofs.Common.{◌≡◌, ℕ, zero, suc, ◌+◌, List, [], ◌∷◌, length, sym, refl, ap, subst, ◌∙◌, arith}
use mathlib.Core.Option.{some, some-injective, some-ne-none}
use lib.ListN.{get_elem?}
use Rattle.yard_model.specs.declared.view.Beginning.{Beginning}
use Rattle.yard_model.specs.declared.view.View.{View}
use Rattle.yard_model.specs.Opens.{opening_view, opening_views_from, ViewsOpenLaw}

module _ (b : Beginning) where
  number : (i n : ℕ) → length (opening_views_from b i n) ≡ n
  number i zero = refl
  number i (suc n) = ap suc (number (suc i) n)

  each : (i n k : ℕ) (v : View) → get_elem? (opening_views_from b i n) k ≡ some v → v ≡ opening_view b (i + k)
  each i zero k v at = absurd (some-ne-none v (sym at))
  each i (suc n) zero v at = let e : i ≡ i + 0 = omega arith in sym (some-injective (opening_view b i) v at) ∙ ap (opening_view b) e
  each i (suc n) (suc k) v at = let e : suc i + k ≡ i + suc k = omega arith in each (suc i) n k v at ∙ ap (opening_view b) e

  all : (i n : ℕ) (vs : List View) → length vs ≡ n → ((k : ℕ) (v : View) → get_elem? vs k ≡ some v → v ≡ opening_view b (i + k)) → vs ≡ opening_views_from b i n
  all i zero [] l f = refl
  all i zero (x ∷ xs) l f = absurd (omega (arith, l))
  all i (suc n) [] l f = absurd (omega (arith, l))
  all i (suc n) (x ∷ xs) l f =
      let e : i + 0 ≡ i = omega arith in
      let here : x ≡ opening_view b i = f 0 x refl ∙ ap (opening_view b) e in
      let rest : xs ≡ opening_views_from b (suc i) n = all (suc i) n xs (omega (arith, l)) (λ k v at. let g : i + suc k ≡ suc i + k = omega arith in f (suc k) v at ∙ ap (opening_view b) g) in
      λ m. here m ∷ rest m

pub views_open : ViewsOpenLaw
views_open b vs = (
  λ same. subst (λ (us : List View). (length us ≡ b.settings.threads) × ((i : ℕ) (v : View) → get_elem? us i ≡ some v → v ≡ opening_view b i)) (sym same)
      (number b 0 b.settings.threads, λ i v at. let e : 0 + i ≡ i = omega arith in each b 0 b.settings.threads i v at ∙ ap (opening_view b) e),
  λ is. all b 0 b.settings.threads vs is.0 (λ k v at. let e : k ≡ 0 + k = omega arith in is.1 k v at ∙ ap (opening_view b) e),
)
