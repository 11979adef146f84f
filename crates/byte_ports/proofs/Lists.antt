-- Lists of the numbers of calls that fail.
use Rattle.std.proofs.Common.{ℕ, List, sym, ap, ◌∙◌}
use Rattle.std.specs.Prelude.{◌==◌, ◌↔◌, IsTrue, Contains}
use Rattle.std.specs.Cmp.{nat_eq_equiv}
use Rattle.std.specs.List.{list_any}
use Rattle.std.proofs.lemmas.List.Folds.{list_any_at}
use Rattle.std.proofs.lemmas.Map.Views.{Contains-from_any, exact_unsigned_eq}

-- a number that is looked for is found exactly where it stands on the list
pub found_where_listed : (n : ℕ) (ns : List ℕ) → IsTrue (list_any (λ m. m == n) ns) ↔ Contains ns n
found_where_listed n ns = (
  λ found. Contains-from_any {eq = λ (q m : ℕ). m == q} (λ x y e. sym (exact_unsigned_eq y x e)) n ns found,
  λ there. list_any_at (λ m. m == n) ns there.0 n there.1 (ap (λ m. m == n) there.2 ∙ nat_eq_equiv.refl n),
)
