-- Finite maps with keys taken out: what a change does to the keys that are kept.
use Rattle.std.proofs.Common.{◌≡◌, ℕ, ◌==◌, Bool, true, false, cond, Option, Some, None, refl, sym, ap, ◌∙◌, subst, inl, inr, arith, eq-eqb}
use Rattle.std.specs.Ordering.{nat_cmp, eq_by_cmp}
use Rattle.std.specs.FinMap.{get, insert, remove, retain_keys, get-insert, get-remove, get-retain_keys, same_map, nat_cmp-IsAntisymmetric}
use Rattle.std.proofs.lemmas.Cmp.{nat_cmp_total, eq_by_cmp_equiv}
use Rattle.std.proofs.lemmas.Bool.Decides.{eqb_tells, nat_tests}
use Rattle.seq_object.specs.Object.{Pairs, put_pairs}

-- two maps are one where they answer alike
pub one_map : (m n : Pairs) → ((q : ℕ) → get m q ≡ get n q) → m ≡ n
one_map = same_map nat_cmp_total nat_cmp-IsAntisymmetric

-- two keys tie where they are equal
pub same_test : (a b : ℕ) → eq_by_cmp nat_cmp a b ≡ (a == b)
same_test a b = elim (eqb_tells a b) [
  | inl h ↦ subst (λ (c : ℕ). eq_by_cmp nat_cmp a c ≡ (a == c)) h.1 ((eq_by_cmp_equiv nat_cmp_total).refl a ∙ sym (eq-eqb a a refl))
  | inr h ↦ not_true (eq_by_cmp nat_cmp a b) (λ t. h.1 (exact t)) ∙ sym h.0
]
  where
    not_true : (b : Bool) → (b ≡ true → ⊥) → b ≡ false
    not_true true never = absurd (never refl)
    not_true false never = refl

    exact : eq_by_cmp nat_cmp a b ≡ true → a ≡ b
    exact t = grind (arith, nat_tests)

-- a look-up after a put
pub got_put : (m : Pairs) (k v q : ℕ) → get (insert m k v) q ≡ cond (q == k) (Some v) (get m q)
got_put m k v q = get-insert nat_cmp_total m k v q ∙ ap (λ (b : Bool). cond b (Some v) (get m q)) (same_test q k)

-- a look-up after a removal
pub got_removed : (m : Pairs) (k q : ℕ) → get (remove m k) q ≡ cond (q == k) None (get m q)
got_removed m k q = get-remove nat_cmp_total m k q ∙ ap (λ (b : Bool). cond b None (get m q)) (same_test q k)

-- a look-up among the keys that pass a test
pub got_kept : (m : Pairs) (p : ℕ → Bool) (q : ℕ) → get (retain_keys m p) q ≡ cond (p q) (get m q) None
got_kept m p q = get-retain_keys m p q (λ x t. ap p (sym (nat_cmp-IsAntisymmetric q x t)))

-- a key that passes the test has the value that it had
pub got_key : (m : Pairs) (p : ℕ → Bool) (q : ℕ) → p q ≡ true → get (retain_keys m p) q ≡ get m q
got_key m p q t = got_kept m p q ∙ ap (λ (b : Bool). cond b (get m q) None) t

-- a test twice is the test once
twice : (b : Bool) (o : Option ℕ) → cond b (cond b o None) None ≡ cond b o None
twice true o = refl
twice false o = refl

-- keys that pass a test twice are those that pass it once
pub kept_twice : (m : Pairs) (p : ℕ → Bool) → retain_keys (retain_keys m p) p ≡ retain_keys m p
kept_twice m p = one_map _ _ (λ q. got_kept (retain_keys m p) p q ∙ ap (λ (o : Option ℕ). cond (p q) o None) (got_kept m p q) ∙ twice (p q) (get m q) ∙ sym (got_kept m p q))

-- one change at the key k, which is kept: either order is one
crossed : (b at : Bool) (new old : Option ℕ) → (at ≡ true → b ≡ true) → cond b (cond at new old) None ≡ cond at new (cond b old None)
crossed true at new old h = refl
crossed false true new old h = absurd (cc (h refl))
crossed false false new old h = refl

-- one change at the key k, which is not kept: it is not seen
missed : (b at : Bool) (new old : Option ℕ) → (at ≡ true → b ≡ false) → cond b (cond at new old) None ≡ cond b old None
missed true true new old h = absurd (cc (h refl))
missed true false new old h = refl
missed false at new old h = refl

-- a test at an equal key
at_key : (p : ℕ → Bool) (k q : ℕ) (b : Bool) → p k ≡ b → (q == k) ≡ true → p q ≡ b
at_key p k q b h t = let same : q ≡ k = grind (arith, nat_tests) in ap p same ∙ h

-- a put at a key that is kept
pub kept_put : (m : Pairs) (p : ℕ → Bool) (k v : ℕ) → p k ≡ true → retain_keys (insert m k v) p ≡ insert (retain_keys m p) k v
kept_put m p k v t = one_map _ _ (λ q. got_kept (insert m k v) p q ∙ ap (λ (o : Option ℕ). cond (p q) o None) (got_put m k v q)
    ∙ crossed (p q) (q == k) (Some v) (get m q) (at_key p k q true t) ∙ ap (cond (q == k) (Some v)) (sym (got_kept m p q)) ∙ sym (got_put (retain_keys m p) k v q))

-- a put at a key that is not kept
pub lost_put : (m : Pairs) (p : ℕ → Bool) (k v : ℕ) → p k ≡ false → retain_keys (insert m k v) p ≡ retain_keys m p
lost_put m p k v t = one_map _ _ (λ q. got_kept (insert m k v) p q ∙ ap (λ (o : Option ℕ). cond (p q) o None) (got_put m k v q)
    ∙ missed (p q) (q == k) (Some v) (get m q) (at_key p k q false t) ∙ sym (got_kept m p q))

-- a removal at a key that is kept
pub kept_removed : (m : Pairs) (p : ℕ → Bool) (k : ℕ) → p k ≡ true → retain_keys (remove m k) p ≡ remove (retain_keys m p) k
kept_removed m p k t = one_map _ _ (λ q. got_kept (remove m k) p q ∙ ap (λ (o : Option ℕ). cond (p q) o None) (got_removed m k q)
    ∙ crossed (p q) (q == k) None (get m q) (at_key p k q true t) ∙ ap (cond (q == k) None) (sym (got_kept m p q)) ∙ sym (got_removed (retain_keys m p) k q))

-- a removal at a key that is not kept
pub lost_removed : (m : Pairs) (p : ℕ → Bool) (k : ℕ) → p k ≡ false → retain_keys (remove m k) p ≡ retain_keys m p
lost_removed m p k t = one_map _ _ (λ q. got_kept (remove m k) p q ∙ ap (λ (o : Option ℕ). cond (p q) o None) (got_removed m k q)
    ∙ missed (p q) (q == k) None (get m q) (at_key p k q false t) ∙ sym (got_kept m p q))

-- the pairs after a put command at a key that is kept
pub kept_put_pairs : (m : Pairs) (p : ℕ → Bool) (k v : ℕ) (o : Option ℕ) (full : Bool) → p k ≡ true → retain_keys (put_pairs m k v o full) p ≡ put_pairs (retain_keys m p) k v o full
kept_put_pairs m p k v (Some old) full t = kept_put m p k v t
kept_put_pairs m p k v None true t = refl
kept_put_pairs m p k v None false t = kept_put m p k v t

-- the pairs after a put command at a key that is not kept
pub lost_put_pairs : (m : Pairs) (p : ℕ → Bool) (k v : ℕ) (o : Option ℕ) (full : Bool) → p k ≡ false → retain_keys (put_pairs m k v o full) p ≡ retain_keys m p
lost_put_pairs m p k v (Some old) full t = lost_put m p k v t
lost_put_pairs m p k v None true t = refl
lost_put_pairs m p k v None false t = lost_put m p k v t
