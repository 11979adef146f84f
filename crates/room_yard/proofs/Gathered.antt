-- What the rooms of a world have together: the pairs of all shards, the items, the restart points.
use Rattle.std.proofs.Common.{◌≡◌, ◌≢◌, ℕ, suc, ◌+◌, ◌-◌, ◌<◌, ◌≤◌, ◌⊎◌, ◌==◌, cond, Bool, true, false, List, [], ◌∷◌, ◌++◌, map, length, drop, get_or, take, drop_of_length-le, Option, Some, None, sym, refl, ap, ◌∙◌, inl, inr, ⊎_elim, arith, eq-eqb}
use Rattle.std.specs.List.{flat_map}
use Rattle.std.specs.FinMap.{entries, get, from_entries, get-entries, get-from_entries, get-empty}
use Rattle.std.specs.Ordering.{nat_cmp}
use Rattle.std.proofs.lemmas.Cmp.{nat_cmp_total}
use Rattle.std.proofs.lemmas.Bool.{ne_eqb, cases_lt}
use Rattle.std.proofs.lemmas.Bool.Decides.{eqb_tells}
use Rattle.std.proofs.lemmas.List.{drop_more, take_more, append_assoc, append-nil}
use mathlib.Core.Option.{some}
use lib.ListN.{get_elem?}
use Rattle.seq_object.specs.declared.history.Pair.{Pair}
use Rattle.seq_object.specs.Plain.{pair_of}
use Rattle.seq_object.specs.Object.{Pairs, shard_of, shard_pairs}
use Rattle.seq_object.proofs.Pairs.{got_put, got_kept}
use Rattle.seq_object.specs.declared.sizes.Sizes.{Sizes}

-- one of two values
abbrev or_else : Option ℕ → Option ℕ → Option ℕ
or_else None other = other
or_else (Some value) other = Some value

-- a look-up in two lists of entries
get_joined : (es fs : List (ℕ × ℕ)) (q : ℕ) → get (from_entries {R = nat_cmp} (es ++ fs)) q ≡ or_else (get (from_entries {R = nat_cmp} es) q) (get (from_entries {R = nat_cmp} fs) q)
get_joined [] fs q = ap (λ (o : Option ℕ). or_else o (get (from_entries {R = nat_cmp} fs) q)) (sym (get-empty nat_cmp q))
get_joined (e ∷ es) fs q =
    got_put (from_entries (es ++ fs)) e.0 e.1 q ∙ ap (λ (o : Option ℕ). cond (q == e.0) (Some e.1) o) (get_joined es fs q)
    ∙ by (q == e.0) (get (from_entries {R = nat_cmp} es) q) ∙ ap (λ (o : Option ℕ). or_else o (get (from_entries {R = nat_cmp} fs) q)) (sym (got_put (from_entries es) e.0 e.1 q))
  where
    by : (c : Bool) (o : Option ℕ) → cond c (Some e.1) (or_else o (get (from_entries {R = nat_cmp} fs) q)) ≡ or_else (cond c (Some e.1) o) (get (from_entries {R = nat_cmp} fs) q)
    by true o = refl
    by false o = refl

-- a map is that of its entries
get_back : (m : Pairs) (q : ℕ) → get (from_entries {R = nat_cmp} (entries m)) q ≡ get m q
get_back m q = get-from_entries nat_cmp_total (entries m) q ∙ sym (get-entries m q)

-- lists of which the one of number n has the entries of shard n where there is such a shard, and is else empty; the first has number r
module _ {X : Type 0} (f : X → List (ℕ × ℕ)) (z : Sizes) (m : Pairs) where
  abbrev IsShard : ℕ → X → Type 0
  IsShard n x = ((n < z.shards) × (f x ≡ entries (shard_pairs z n m))) ⊎ (f x ≡ [])

  abbrev HasShards : ℕ → List X → Type 0
  HasShards r xs = (k n : ℕ) (x : X) → get_elem? xs k ≡ some x → n ≡ r + k → IsShard n x

  rest : (r : ℕ) (x : X) (xs : List X) → HasShards r (x ∷ xs) → HasShards (suc r) xs
  rest r x xs all k n y at e = all (suc k) n y at (omega (arith, e))

  -- a key of another shard is not in a shard's list
  other : (r q : ℕ) (x : X) → IsShard r x → shard_of z q ≢ r → get (from_entries {R = nat_cmp} (f x)) q ≡ None
  other r q x (inl is) ne = ap (λ (es : List (ℕ × ℕ)). get (from_entries {R = nat_cmp} es) q) is.1 ∙ get_back (shard_pairs z r m) q ∙ got_kept m (λ k. shard_of z k == r) q
      ∙ ap (λ (c : Bool). cond c (get m q) None) (ne_eqb (shard_of z q) r ne)
  other r q x (inr is) ne = ap (λ (es : List (ℕ × ℕ)). get (from_entries {R = nat_cmp} es) q) is ∙ get-empty nat_cmp q

  own : (r q : ℕ) (x : X) → f x ≡ entries (shard_pairs z r m) → shard_of z q ≡ r → get (from_entries {R = nat_cmp} (f x)) q ≡ get m q
  own r q x is mine = ap (λ (es : List (ℕ × ℕ)). get (from_entries {R = nat_cmp} es) q) is ∙ get_back (shard_pairs z r m) q ∙ got_kept m (λ k. shard_of z k == r) q
      ∙ ap (λ (c : Bool). cond c (get m q) None) (eq-eqb (shard_of z q) r mine)

  -- behind the shard of a key
  none_behind : (r q : ℕ) (xs : List X) → HasShards r xs → shard_of z q < r → get (from_entries {R = nat_cmp} (flat_map f xs)) q ≡ None
  none_behind r q [] all lt = get-empty nat_cmp q
  none_behind r q (x ∷ xs) all lt =
      get_joined (f x) (flat_map f xs) q
      ∙ ap (λ (o : Option ℕ). or_else o (get (from_entries {R = nat_cmp} (flat_map f xs)) q)) (other r q x (all 0 r x refl (omega arith)) (λ e. omega (arith, e, lt)))
      ∙ none_behind (suc r) q xs (rest r x xs all) (omega (arith, lt))

  -- from its shard on, where that has its list
  pub found_from : (r q : ℕ) (xs : List X) → HasShards r xs → ((k : ℕ) (x : X) → get_elem? xs k ≡ some x → shard_of z q ≡ r + k → f x ≡ entries (shard_pairs z (shard_of z q) m))
      → r ≤ shard_of z q → shard_of z q < r + length xs → get (from_entries {R = nat_cmp} (flat_map f xs)) q ≡ get m q
  found_from r q [] all has le lt = absurd (omega (arith, le, lt))
  found_from r q (x ∷ xs) all has le lt = by (eqb_tells (shard_of z q) r)
      (λ ne. found_from (suc r) q xs (rest r x xs all) (λ k y at e. has (suc k) y at (omega (arith, e))) (omega (arith, ne, le)) (omega (arith, lt)))
    where
      nothing_more : (o : Option ℕ) → or_else o None ≡ o
      nothing_more None = refl
      nothing_more (Some v) = refl

      here : shard_of z q ≡ r → get (from_entries {R = nat_cmp} (f x ++ flat_map f xs)) q ≡ get m q
      here e =
          get_joined (f x) (flat_map f xs) q
          ∙ (λ j. or_else (own (shard_of z q) q x (has 0 x refl (omega (arith, e))) refl j) (none_behind (suc r) q xs (rest r x xs all) (omega (arith, e)) j))
          ∙ nothing_more (get m q)

      behind : shard_of z q ≢ r → get (from_entries {R = nat_cmp} (flat_map f xs)) q ≡ get m q → get (from_entries {R = nat_cmp} (f x ++ flat_map f xs)) q ≡ get m q
      behind ne next =
          get_joined (f x) (flat_map f xs) q
          ∙ ap (λ (o : Option ℕ). or_else o (get (from_entries {R = nat_cmp} (flat_map f xs)) q)) (other r q x (all 0 r x refl (omega arith)) ne)
          ∙ next

      by : (((shard_of z q == r) ≡ true) × (shard_of z q ≡ r)) ⊎ (((shard_of z q == r) ≡ false) × (shard_of z q ≢ r))
          → (shard_of z q ≢ r → get (from_entries {R = nat_cmp} (flat_map f xs)) q ≡ get m q) → get (from_entries {R = nat_cmp} (f x ++ flat_map f xs)) q ≡ get m q
      by (inl e) next = here e.1
      by (inr ne) next = behind ne.1 (next ne.1)

module _ {X A : Type 0} (f : X → List A) where
  -- lists one behind the other, with one more
  pub flat_map_push : (xs : List X) (x : X) → flat_map f (xs ++ x ∷ []) ≡ flat_map f xs ++ f x
  flat_map_push [] x = append-nil (f x)
  flat_map_push (y ∷ ys) x = ap (λ (l : List A). f y ++ l) (flat_map_push ys x) ∙ sym (append_assoc (f y) (flat_map f ys) (f x))

  pub flat_map_more : (xs : List X) (i : ℕ) (d : X) → i < length xs → flat_map f (take (i + 1) xs) ≡ flat_map f (take i xs) ++ f (get_or xs i d)
  flat_map_more xs i d lt = ap (λ (l : List X). flat_map f l) (take_more xs i d lt) ∙ flat_map_push (take i xs) (get_or xs i d)

  -- lists of which one alone has items: that of this number
  module _ (items : List A) (place : ℕ) where
    nothing : (r : ℕ) (xs : List X) → ((k n : ℕ) (x : X) → get_elem? xs k ≡ some x → n ≡ r + k → n ≢ place → f x ≡ []) → place < r → flat_map f xs ≡ []
    nothing r [] else lt = refl
    nothing r (x ∷ xs) else lt = (λ j. else 0 r x refl (omega arith) (λ e. omega (arith, e, lt)) j ++ flat_map f xs)
        ∙ nothing (suc r) xs (λ k n y at e ne. else (suc k) n y at (omega (arith, e)) ne) (omega (arith, lt))

    pub only_one : (r : ℕ) (xs : List X) → ((k : ℕ) (x : X) → get_elem? xs k ≡ some x → place ≡ r + k → f x ≡ items)
        → ((k n : ℕ) (x : X) → get_elem? xs k ≡ some x → n ≡ r + k → n ≢ place → f x ≡ []) → r ≤ place → place < r + length xs → flat_map f xs ≡ items
    only_one r [] here else le lt = absurd (omega (arith, le, lt))
    only_one r (x ∷ xs) here else le lt = by (eqb_tells r place)
        (λ ne. only_one (suc r) xs (λ k y at e. here (suc k) y at (omega (arith, e))) (λ k n y at e ne. else (suc k) n y at (omega (arith, e)) ne) (omega (arith, ne, le)) (omega (arith, lt)))
      where
        by : (((r == place) ≡ true) × (r ≡ place)) ⊎ (((r == place) ≡ false) × (r ≢ place)) → (r ≢ place → flat_map f xs ≡ items) → f x ++ flat_map f xs ≡ items
        by (inl is) next = let e = is.1 in
            (λ j. here 0 x refl (omega (arith, e)) j ++ nothing (suc r) xs (λ k n y at e ne. else (suc k) n y at (omega (arith, e)) ne) (omega (arith, e)) j) ∙ append-nil items
        by (inr not) next = let ne = not.1 in (λ j. else 0 r x refl (omega arith) ne j ++ flat_map f xs) ∙ next ne

  -- lists each of which has one item from this number on, and none before or behind
  module _ (d : A) (items : List A) (first : ℕ) where
    pub each_from : (r : ℕ) (xs : List X) → ((k i : ℕ) (x : X) → get_elem? xs k ≡ some x → r + k ≡ first + i → i < length items → f x ≡ get_or items i d ∷ [])
        → ((k n : ℕ) (x : X) → get_elem? xs k ≡ some x → n ≡ r + k → (n < first) ⊎ (first + length items ≤ n) → f x ≡ [])
        → first + length items ≤ r + length xs → flat_map f xs ≡ drop (r - first) items
    each_from r [] here else le = sym (drop_of_length-le items (omega (arith, le)))
    each_from r (x ∷ xs) here else le = by (cases_lt r first)
        (each_from (suc r) xs (λ k i y at e lt. here (suc k) i y at (omega (arith, e)) lt) (λ k n y at e out. else (suc k) n y at (omega (arith, e)) out) (omega (arith, le)))
      where
        before : flat_map f xs ≡ drop (suc r - first) items → r < first → f x ++ flat_map f xs ≡ drop (r - first) items
        before next lt = let e : suc r - first ≡ r - first = omega (arith, lt) in
            (λ j. else 0 r x refl (omega arith) (inl lt) j ++ next j) ∙ ap (λ (n : ℕ). drop n items) e

        behind : flat_map f xs ≡ drop (suc r - first) items → first ≤ r → f x ++ flat_map f xs ≡ drop (r - first) items
        behind next ge = ⊎_elim
            (λ (lt : r - first < length items). let e : suc r - first ≡ r - first + 1 = omega (arith, ge) in
            (λ j. here 0 (r - first) x refl (omega (arith, ge)) lt j ++ next j) ∙ ap (λ (n : ℕ). get_or items (r - first) d ∷ drop n items) e ∙ sym (drop_more items (r - first) d lt))
            (λ (past : length items ≤ r - first).
            (λ j. else 0 r x refl (omega arith) (inr (omega (arith, ge, past))) j ++ next j)
            ∙ (drop_of_length-le items (omega (arith, ge, past)) ∙ sym (drop_of_length-le items past)))
            (cases_lt (r - first) (length items))

        by : (r < first) ⊎ (first ≤ r) → flat_map f xs ≡ drop (suc r - first) items → f x ++ flat_map f xs ≡ drop (r - first) items
        by (inl lt) next = before next lt
        by (inr ge) next = behind next ge

-- the entries of a map, listed as pairs and taken apart again
pub taken_apart : (es : List (ℕ × ℕ)) → map (λ (p : Pair). (p.key, p.value)) (map pair_of es) ≡ es
taken_apart [] = refl
taken_apart (e ∷ es) = ap (λ (l : List (ℕ × ℕ)). e ∷ l) (taken_apart es)
