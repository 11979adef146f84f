-- The counters of the shards' keys after a change.
use Rattle.std.proofs.Common.{◌≡◌, ◌≢◌, ℕ, ◌+◌, ◌-◌, ◌<◌, ◌≤◌, ◌==◌, Bool, true, false, cond, Option, Some, None, List, length, if◌then◌else◌, refl, sym, ap, ◌∙◌, subst, inl, inr, arith, eq-eqb}
use Rattle.std.specs.Prelude.{is_some, is_none, slice_index, slice_set, ◌&&◌}
use Rattle.std.specs.Ordering.{nat_cmp}
use Rattle.std.specs.FinMap.{get, insert, remove, len, empty, empty_of_len, get-empty, len-empty}
use Rattle.std.proofs.lemmas.Bool.{ne_eqb}
use Rattle.std.proofs.lemmas.Bool.Decides.{eqb_tells}
use Rattle.std.proofs.lemmas.List.{get_or-set_same, get_or-set_other}
use Rattle.seq_object.specs.Object.{Pairs, shard_of, shard_pairs}
use Rattle.seq_object.specs.Plain.{AreCounts}
use Rattle.seq_object.proofs.Pairs.{got_key, got_kept, one_map}
use Rattle.seq_object.proofs.Shards.{shard_put, shard_remove}
use Rattle.seq_object.specs.declared.sizes.Sizes.{Sizes}

-- a map that has a key is not empty
pub some_len : (m : Pairs) (k v : ℕ) → get m k ≡ Some v → 1 ≤ len m
some_len m k v has = elim (eqb_tells (len m) 0) [
  | inl h ↦ let none : get m k ≡ None = ap (λ (n : Pairs). get n k) (empty_of_len m h.1) ∙ get-empty nat_cmp k in absurd (cc (has, none))
  | inr h ↦ omega (arith, h.1)
]

-- a shard that has a key has a counter above 0
pub some_count : (z : Sizes) (pairs : Pairs) (counts : List ℕ) (k v : ℕ) → 0 < z.shards → AreCounts z pairs counts → get pairs k ≡ Some v → 1 ≤ slice_index counts (shard_of z k)
some_count z pairs counts k v pos right has =
    let at : slice_index counts (shard_of z k) ≡ len (shard_pairs z (shard_of z k) pairs) = right (shard_of z k) (omega arith) in
    let own : get (shard_pairs z (shard_of z k) pairs) k ≡ get pairs k = got_key pairs (λ key. shard_of z key == shard_of z k) k (eq-eqb (shard_of z k) (shard_of z k) refl) in
    let some : 1 ≤ len (shard_pairs z (shard_of z k) pairs) = some_len (shard_pairs z (shard_of z k) pairs) k v (own ∙ has) in
    omega (arith, at, some)

-- one counter set to the right number, where the keys of each other shard are as they were
set_counts : (z : Sizes) (pairs news : Pairs) (counts : List ℕ) (at n : ℕ) → at < length counts → AreCounts z pairs counts → len (shard_pairs z at news) ≡ n
    → ((shard : ℕ) → at ≢ shard → len (shard_pairs z shard news) ≡ len (shard_pairs z shard pairs)) → AreCounts z news (slice_set counts at n)
set_counts z pairs news counts at n within right here others shard below = elim (eqb_tells at shard) [
  | inl h ↦ subst (λ (s : ℕ). slice_index (slice_set counts at n) s ≡ len (shard_pairs z s news)) h.1 (get_or-set_same counts at n 0 within ∙ sym here)
  | inr h ↦ get_or-set_other counts at shard n 0 (λ e. h.1 (sym e)) ∙ right shard below ∙ sym (others shard h.1)
]

-- a new key raises its shard's counter
pub counts_new : (z : Sizes) (pairs : Pairs) (counts : List ℕ) (k v : ℕ) → 0 < z.shards → shard_of z k < length counts → AreCounts z pairs counts → get pairs k ≡ None
    → AreCounts z (insert pairs k v) (slice_set counts (shard_of z k) (slice_index counts (shard_of z k) + 1))
counts_new z pairs counts k v pos within right none =
    set_counts z pairs (insert pairs k v) counts (shard_of z k) (slice_index counts (shard_of z k) + 1) within right
    (shard_put z pairs k v (shard_of z k)
    ∙ ap (λ (b : Bool). if b && is_none (get pairs k) then len (shard_pairs z (shard_of z k) pairs) + 1 else len (shard_pairs z (shard_of z k) pairs)) (eq-eqb (shard_of z k) (shard_of z k) refl)
    ∙ ap (λ (o : Option ℕ). if is_none o then len (shard_pairs z (shard_of z k) pairs) + 1 else len (shard_pairs z (shard_of z k) pairs)) none
    ∙ ap (λ (n : ℕ). n + 1) (sym (right (shard_of z k) (omega arith))))
    (λ shard ne. shard_put z pairs k v shard
    ∙ ap (λ (b : Bool). if b && is_none (get pairs k) then len (shard_pairs z shard pairs) + 1 else len (shard_pairs z shard pairs)) (ne_eqb (shard_of z k) shard ne))

-- a key that goes lowers its shard's counter
pub counts_gone : (z : Sizes) (pairs : Pairs) (counts : List ℕ) (k v : ℕ) → 0 < z.shards → shard_of z k < length counts → AreCounts z pairs counts → get pairs k ≡ Some v
    → AreCounts z (remove pairs k) (slice_set counts (shard_of z k) (slice_index counts (shard_of z k) - 1))
counts_gone z pairs counts k v pos within right some =
    set_counts z pairs (remove pairs k) counts (shard_of z k) (slice_index counts (shard_of z k) - 1) within right
    (shard_remove z pairs k (shard_of z k)
    ∙ ap (λ (b : Bool). if b && is_some (get pairs k) then len (shard_pairs z (shard_of z k) pairs) - 1 else len (shard_pairs z (shard_of z k) pairs)) (eq-eqb (shard_of z k) (shard_of z k) refl)
    ∙ ap (λ (o : Option ℕ). if is_some o then len (shard_pairs z (shard_of z k) pairs) - 1 else len (shard_pairs z (shard_of z k) pairs)) some
    ∙ ap (λ (n : ℕ). n - 1) (sym (right (shard_of z k) (omega arith))))
    (λ shard ne. shard_remove z pairs k shard
    ∙ ap (λ (b : Bool). if b && is_some (get pairs k) then len (shard_pairs z shard pairs) - 1 else len (shard_pairs z shard pairs)) (ne_eqb (shard_of z k) shard ne))

-- a key that was there is not counted anew
never : (b : Bool) (m n : ℕ) → (if b && false then m else n) ≡ n
never true m n = refl
never false m n = refl

-- a key that was there leaves the counters right
pub counts_old : (z : Sizes) (pairs : Pairs) (counts : List ℕ) (k v old : ℕ) → AreCounts z pairs counts → get pairs k ≡ Some old → AreCounts z (insert pairs k v) counts
counts_old z pairs counts k v old right some shard below = right shard below ∙ sym (shard_put z pairs k v shard
    ∙ ap (λ (o : Option ℕ). if (shard_of z k == shard) && is_none o then len (shard_pairs z shard pairs) + 1 else len (shard_pairs z shard pairs)) some
    ∙ never (shard_of z k == shard) (len (shard_pairs z shard pairs) + 1) (len (shard_pairs z shard pairs)))

-- an object without pairs has counters of 0
pub none_counts : (z : Sizes) (counts : List ℕ) → ((shard : ℕ) → shard < z.shards → slice_index counts shard ≡ 0) → AreCounts z empty counts
none_counts z counts zeros shard below = zeros shard below ∙ sym (ap len (one_map _ _ (λ q. got_kept empty (λ key. shard_of z key == shard) q ∙ ap (λ (o : Option ℕ). cond (shard_of z q == shard) o None) (get-empty nat_cmp q) ∙ nothing (shard_of z q == shard) None ∙ sym (get-empty nat_cmp q))) ∙ len-empty nat_cmp ℕ)
  where
    nothing : (b : Bool) (o : Option ℕ) → cond b o o ≡ o
    nothing true o = refl
    nothing false o = refl
