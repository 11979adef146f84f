-- The pairs of a map as a list.
use Rattle.std.proofs.Common.{◌≡◌, ◌↔◌, ℕ, Bool, true, false, Some, List, [], ◌∷◌, ◌&&◌, T, map, refl, sym, ap, ◌∙◌, subst, arith}
use Rattle.std.specs.List.{AllByRecursion, Contains}
use Rattle.std.specs.List.Sorted.{IsStrictlySortedBy, IsStrictlyIncreasing}
use Rattle.std.specs.Ordering.{nat_cmp, is_lt, eq_by_cmp}
use Rattle.std.specs.declared.cmp.Ordering.{Ordering}
use Rattle.std.specs.declared.cmp.Ordering.TheVariants.{Less, Equal, Greater}
use Rattle.std.specs.Map.{keys_of}
use Rattle.std.specs.FinMap.{is_sorted, entries, get, get-entries, entries_sorted}
use Rattle.std.specs.FinMap.Entries.{below_all}
use Rattle.std.proofs.lemmas.Cmp.{nat_cmp_total, eq_by_cmp_equiv}
use Rattle.std.proofs.Math.ListN.{get_or-map}
use Rattle.std.proofs.lemmas.List.{length-map}
use Rattle.std.proofs.lemmas.Map.Keys.{IsStrictlyIncreasing-from_sorted, IsDistinct-from_sorted}
use Rattle.std.proofs.lemmas.Map.Lookups.{exact_unsigned}
use Rattle.std.proofs.lemmas.Map.Views.{Contains-from_lookup, lookup-from_Contains, tells_apart}
use Rattle.std.proofs.lemmas.Simd.{map-map}
use Rattle.seq_object.specs.declared.history.Pair.{Pair}
use Rattle.seq_object.specs.Object.{Pairs}
use Rattle.seq_object.specs.Laws.{ListedLaw}
use Rattle.seq_object.specs.Plain.{pair_of}
use Rattle.seq_object.proofs.Entries.{same_find}

-- the first of two tests that hold together
first : (a b : Bool) → T (a && b) → T a
first true b t = tt
first false b t = t

-- the second of two tests that hold together
second : (a b : Bool) → T (a && b) → T b
second true b t = t
second false b t = absurd t

-- a comparison that is found to be less
less : (o : Ordering) → T (is_lt o) → o ≡ Less
less Less t = refl
less Equal t = absurd t
less Greater t = absurd t

-- a key that is tested below all later keys
below : (k : ℕ) (es : List (ℕ × ℕ)) → T (below_all nat_cmp k es) → AllByRecursion (λ y. nat_cmp k y ≡ Less) (keys_of es)
below k [] t = tt
below k (e ∷ es) t = (less (nat_cmp k e.0) (first _ _ t), below k es (second _ _ t))

-- keys that are tested to rise
rises : (es : List (ℕ × ℕ)) → T (is_sorted nat_cmp es) → IsStrictlySortedBy nat_cmp (keys_of es)
unfolding IsStrictlySortedBy
rises [] t = tt
rises (e ∷ es) t = (below e.0 es (first _ _ t), rises es (second _ _ t))

-- the keys of a map rise
keys_rise : (pairs : Pairs) → IsStrictlySortedBy nat_cmp (keys_of (entries pairs))
keys_rise pairs = rises (entries pairs) (entries_sorted pairs)

-- an entry is found exactly where it is among the entries
found_entry : (pairs : Pairs) (key value : ℕ) → (get pairs key ≡ Some value) ↔ Contains (entries pairs) (key, value)
found_entry pairs key value = (
  λ has. Contains-from_lookup {eq = eq_by_cmp nat_cmp} (tells_apart exact_unsigned) key value (entries pairs) (sym (get-entries pairs key ∙ same_find (entries pairs) key) ∙ has),
  λ within. get-entries pairs key ∙ same_find (entries pairs) key ∙ lookup-from_Contains {eq = eq_by_cmp nat_cmp} (eq_by_cmp_equiv nat_cmp_total) key value (entries pairs) (IsDistinct-from_sorted nat_cmp (keys_of (entries pairs)) (keys_rise pairs)) within,
)

-- a pair is among the listed exactly where its entry is among the entries
listed_entry : (es : List (ℕ × ℕ)) (key value : ℕ) → Contains es (key, value) ↔ Contains (map pair_of es) (pair_of (key, value))
listed_entry es key value = (
  λ within. (within.0, omega (arith, within.1, length-map es pair_of), get_or-map pair_of es within.0 (key, value) ∙ ap pair_of within.2),
  λ within. (within.0, omega (arith, within.1, length-map es pair_of), ap entry_of (sym (get_or-map pair_of es within.0 (key, value)) ∙ within.2)),
)
  where
    entry_of : Pair → ℕ × ℕ
    entry_of p = (p.key, p.value)

-- the listed pairs are those of the map, in the order of their keys
pub listed_pairs : ListedLaw
listed_pairs pairs = (
  subst IsStrictlyIncreasing (sym (map-map (λ p. p.key) pair_of (entries pairs))) (IsStrictlyIncreasing-from_sorted (keys_of (entries pairs)) (keys_rise pairs)),
  λ p. (
    λ has. (listed_entry (entries pairs) p.key p.value).0 ((found_entry pairs p.key p.value).0 has),
    λ within. (found_entry pairs p.key p.value).1 ((listed_entry (entries pairs) p.key p.value).1 within),
  ),
)
