-- The entries of a tree, in the order of their keys, as a finite map.
use Rattle.std.proofs.Common.{◌≡◌, ℕ, Bool, true, false, cond, Option, Some, None, List, [], ◌∷◌, ◌&&◌, T, refl, sym, ap, ◌∙◌, subst}
use Rattle.std.specs.List.{AllByRecursion}
use Rattle.std.specs.List.Sorted.{IsStrictlySortedBy}
use Rattle.std.specs.Ordering.{nat_cmp, is_lt, is_eq}
use Rattle.std.specs.declared.cmp.Ordering.TheVariants.{Less}
use Rattle.std.specs.Map.{lookup, keys_of}
use Rattle.std.specs.FinMap.{find, is_sorted, entries, get, insert, remove, from_entries, from_sorted, get-insert, get-remove, get-from_entries, get-from_sorted, entries-from_sorted}
use Rattle.std.specs.FinMap.Entries.{below_all}
use Rattle.std.proofs.lemmas.Cmp.{nat_cmp_total, eq_by_cmp_equiv}
use Rattle.seq_object.proofs.Pairs.{one_map}

-- the value that a tree finds at a key
abbrev pub found : List (ℕ × ℕ) → ℕ → Option ℕ
found es q = lookup (λ k. is_eq (nat_cmp q k)) es

-- a finite map and a tree find the same in the same entries
pub same_find : (es : List (ℕ × ℕ)) (q : ℕ) → find nat_cmp q es ≡ found es q
same_find [] q = refl
same_find (e ∷ es) q = ap (cond (is_eq (nat_cmp q e.0)) (Some e.1)) (same_find es q)

-- the map has at a key what the tree finds
pub got_entry : (es : List (ℕ × ℕ)) (q : ℕ) → get (from_entries {R = nat_cmp} es) q ≡ found es q
got_entry es q = get-from_entries nat_cmp_total es q ∙ same_find es q

-- entries in which a key has a new value are the map with it put in
pub entries_put : (es fs : List (ℕ × ℕ)) (k v : ℕ) → ((q : ℕ) → found fs q ≡ cond (is_eq (nat_cmp k q)) (Some v) (found es q)) → from_entries {R = nat_cmp} fs ≡ insert (from_entries es) k v
entries_put es fs k v put = one_map _ _ (λ q. got_entry fs q ∙ put q
    ∙ ap (λ (b : Bool). cond b (Some v) (found es q)) ((eq_by_cmp_equiv nat_cmp_total).symm k q)
    ∙ ap (cond (is_eq (nat_cmp q k)) (Some v)) (sym (got_entry es q)) ∙ sym (get-insert nat_cmp_total (from_entries es) k v q))

-- entries in which a key is no more are the map with it removed
pub entries_removed : (es fs : List (ℕ × ℕ)) (k : ℕ) → ((q : ℕ) → found fs q ≡ cond (is_eq (nat_cmp k q)) None (found es q)) → from_entries {R = nat_cmp} fs ≡ remove (from_entries es) k
entries_removed es fs k removed = one_map _ _ (λ q. got_entry fs q ∙ removed q
    ∙ ap (λ (b : Bool). cond b None (found es q)) ((eq_by_cmp_equiv nat_cmp_total).symm k q)
    ∙ ap (cond (is_eq (nat_cmp q k)) None) (sym (got_entry es q)) ∙ sym (get-remove nat_cmp_total (from_entries es) k q))

-- two tests that hold make their conjunction hold
both : (a b : Bool) → T a → T b → T (a && b)
both true b p q = q
both false b p q = p

-- a key below all later keys, as a test
below : (k : ℕ) (es : List (ℕ × ℕ)) → AllByRecursion (λ y. nat_cmp k y ≡ Less) (keys_of es) → T (below_all nat_cmp k es)
below k [] all = tt
below k (e ∷ es) all = both _ _ (subst (λ r. T (is_lt r)) (sym all.0) tt) (below k es all.1)

-- keys that strictly rise, as a test
ordered : (es : List (ℕ × ℕ)) → IsStrictlySortedBy nat_cmp (keys_of es) → T (is_sorted nat_cmp es)
unfolding IsStrictlySortedBy
ordered [] rise = tt
ordered (e ∷ es) rise = both _ _ (below e.0 es rise.0) (ordered es rise.1)

-- entries whose keys strictly rise are those of their map
pub entries-from_entries : (es : List (ℕ × ℕ)) → IsStrictlySortedBy nat_cmp (keys_of es) → entries (from_entries {R = nat_cmp} es) ≡ es
entries-from_entries es rise =
    let sorted = ordered es rise in
    let same : from_entries es ≡ from_sorted es = one_map _ _ (λ q. get-from_entries nat_cmp_total es q ∙ sym (get-from_sorted nat_cmp es q sorted)) in
    ap entries same ∙ entries-from_sorted nat_cmp es sorted
