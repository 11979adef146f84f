-- Seats are split and joined.
use Rattle.std.proofs.Common.{◌≡◌, ◌≢◌, ℕ, zero, suc, ◌⊎◌, List, [], ◌∷◌, ◌++◌, length, set, sym, refl, ap, ◌∙◌, subst, ⊎_elim, inl, inr, eqb, cond, Bool, eq-eqb, ne_eqb}
use mathlib.Core.Option.{some, some-injective, some-ne-none}
use lib.ListN.{get_elem?}
use Rattle.atomic_table.specs.Table.{Splits, Joins}
use Rattle.yard_model.specs.declared.view.View.{View}
use Rattle.yard_model.specs.Shares.{Release}
use Rattle.yard_laws.proofs.Lists.{each_set, at_set, set_else}
use Rattle.shared_yard.specs.declared.known.Known.{Known}
use Rattle.shared_yard.specs.Rule.{SitsAt, AreApart, Each, AllApart, AreSeated, IsLawfulTable}
use Rattle.shared_yard.specs.Seats.{first_known, rest_knowns}

module _ {A : Type 0} where
  pub at_end : (l : List A) (a b : A) (j : ℕ) → get_elem? (l ++ a ∷ []) j ≡ some b → (get_elem? l j ≡ some b) ⊎ ((j ≡ length l) × (a ≡ b))
  at_end [] a b zero e = inr (refl, some-injective a b e)
  at_end [] a b (suc j) e = absurd (some-ne-none b (sym e))
  at_end (x ∷ xs) a b zero e = inl e
  at_end (x ∷ xs) a b (suc j) e = ⊎_elim (λ t. inl t) (λ t. inr (ap suc t.0, t.1)) (at_end xs a b j e)

  pub Each-both : (P Q R : A → Type 0) → ((x : A) → P x → Q x → R x) → (l : List A) → Each P l → Each Q l → Each R l
  Each-both P Q R f [] p q = tt
  Each-both P Q R f (x ∷ xs) p q = (f x p.0 q.0, Each-both P Q R f xs p.1 q.1)

  Each-append : (P : A → Type 0) (l m : List A) → Each P l → Each P m → Each P (l ++ m)
  Each-append P [] m p q = q
  Each-append P (x ∷ l) m p q = (p.0, Each-append P l m p.1 q)

-- the thread t has moved to the seat c
abbrev moved : (ℕ → ℕ) → ℕ → ℕ → ℕ → ℕ
moved f t c j = cond (eqb j t) c (f j)

module _ (views : List View) (rs : List Release) (seat : ℕ → ℕ) where
  abbrev Not : ℕ → Known → Type 0
  Not t u = u.view.thread ≢ t

  -- the other threads keep their seats
  stay : (t c j : ℕ) (l : List Known) → Each (SitsAt views rs seat j) l → Each (Not t) l → Each (SitsAt views rs (moved seat t c) j) l
  stay t c j = Each-both (SitsAt views rs seat j) (Not t) (SitsAt views rs (moved seat t c) j)
      (λ u s n. record { view = s.view; sits = ap (λ (b : Bool). cond b c (seat u.view.thread)) (ne_eqb u.view.thread t n) ∙ s.sits; own = s.own })

  split_seated : (ss : List (List Known)) (id : ℕ) (l : List Known) → ((j : ℕ) (ks : List Known) → get_elem? ss j ≡ some ks → AreSeated views rs seat j ks) → get_elem? ss id ≡ some l
      → (seat' : ℕ → ℕ) × ((j : ℕ) (ks : List Known) → get_elem? (set ss id (rest_knowns l) ++ first_known l ∷ []) j ≡ some ks → AreSeated views rs seat' j ks)
  split_seated ss id [] f at = (
    seat,
    λ j ks e. ⊎_elim (λ (t : get_elem? (set ss id []) j ≡ some ks). each_set (λ (j : ℕ) (ks : List Known). AreSeated views rs seat j ks) ss id [] (tt, tt) (λ j ks _ e. f j ks e) j ks t)
        (λ (t : (j ≡ length (set ss id [])) × ([] ≡ ks)). subst (λ (ks : List Known). AreSeated views rs seat j ks) t.1 (tt, tt)) (at_end (set ss id []) [] ks j e),
  )
  split_seated ss id (k ∷ l) f at = let old = f id (k ∷ l) at in (
    moved seat k.view.thread (length (set ss id l)),
    λ j ks e. ⊎_elim
        (λ (t : get_elem? (set ss id l) j ≡ some ks). each_set (λ (j : ℕ) (ks : List Known). AreSeated views rs (moved seat k.view.thread (length (set ss id l))) j ks) ss id l
        (stay k.view.thread (length (set ss id l)) id l old.0.1 (Each-both (AreApart k) (AreApart k) (Not k.view.thread) (λ u a _ e. a (sym e)) l old.1.0 old.1.0), old.1.1)
        (λ j ks n e. let g = f j ks e in (stay k.view.thread (length (set ss id l)) j ks g.0 (Each-both (SitsAt views rs seat j) (SitsAt views rs seat j) (Not k.view.thread) (λ u s _ e. n (sym s.sits ∙ (ap seat e ∙ old.0.0.sits))) ks g.0 g.0), g.1)) j ks t)
        (λ (t : (j ≡ length (set ss id l)) × (k ∷ [] ≡ ks)). subst (λ (z : ℕ × List Known). AreSeated views rs (moved seat k.view.thread (length (set ss id l))) z.0 z.1) (λ q. (sym t.0 q, t.1 q))
        ((record { view = old.0.0.view; sits = ap (λ (b : Bool). cond b (length (set ss id l)) (seat k.view.thread)) (eq-eqb k.view.thread k.view.thread refl); own = old.0.0.own }, tt), (tt, tt)))
        (at_end (set ss id l) (k ∷ []) ks j e),
  )

  -- whoever sat at other now sits at id
  abbrev merged : ℕ → ℕ → ℕ → ℕ
  merged id other j = cond (eqb (seat j) other) id (seat j)

  cross : (id other : ℕ) → other ≢ id → (l m : List Known) → Each (SitsAt views rs seat id) l → AllApart l → Each (SitsAt views rs seat other) m → AllApart m → AllApart (l ++ m)
  cross id other n [] m a b c d = d
  cross id other n (k ∷ l) m a b c d = (
    Each-append (AreApart k) l m b.0 (Each-both (SitsAt views rs seat other) (SitsAt views rs seat other) (AreApart k) (λ u s _ e. n (sym s.sits ∙ (ap seat (sym e) ∙ a.0.sits))) m c c),
    cross id other n l m a.1 b.1 c d,
  )

  here_stays : (id other : ℕ) (j c : ℕ) (l : List Known) → ((u : Known) → seat u.view.thread ≡ j → merged id other u.view.thread ≡ c) → Each (SitsAt views rs seat j) l → Each (SitsAt views rs (merged id other) c) l
  here_stays id other j c l f e = Each-both (SitsAt views rs seat j) (SitsAt views rs seat j) (SitsAt views rs (merged id other) c) (λ u s _. record { view = s.view; sits = f u s.sits; own = s.own }) l e e

  from_other : (id other : ℕ) (u : Known) → seat u.view.thread ≡ other → merged id other u.view.thread ≡ id
  from_other id other u e = ap (λ (b : Bool). cond b id (seat u.view.thread)) (eq-eqb (seat u.view.thread) other e)

  from_else : (id other j : ℕ) → j ≢ other → (u : Known) → seat u.view.thread ≡ j → merged id other u.view.thread ≡ j
  from_else id other j n u e = ap (λ (b : Bool). cond b id (seat u.view.thread)) (ne_eqb (seat u.view.thread) other (λ p. n (sym e ∙ p))) ∙ e

  join_seated : (ss : List (List Known)) (id other : ℕ) (l m : List Known) → ((j : ℕ) (ks : List Known) → get_elem? ss j ≡ some ks → AreSeated views rs seat j ks) → get_elem? ss id ≡ some l → other ≢ id → get_elem? ss other ≡ some m
      → (j : ℕ) (ks : List Known) → get_elem? (set (set ss id (l ++ m)) other []) j ≡ some ks → AreSeated views rs (merged id other) j ks
  join_seated ss id other l m f at n at' = let a = f id l at in let b = f other m at' in
      each_set (λ (j : ℕ) (ks : List Known). AreSeated views rs (merged id other) j ks) (set ss id (l ++ m)) other [] (tt, tt)
      (λ j ks ne e. ⊎_elim
      (λ (t : (j ≡ id) × (l ++ m ≡ ks)). subst (λ (z : ℕ × List Known). AreSeated views rs (merged id other) z.0 z.1) (λ q. (sym t.0 q, t.1 q))
      (Each-append (SitsAt views rs (merged id other) id) l m (here_stays id other id id l (from_else id other id (λ p. n (sym p))) a.0) (here_stays id other other id m (from_other id other) b.0), cross id other n l m a.0 a.1 b.0 b.1))
      (λ (t : (j ≢ id) × (get_elem? ss j ≡ some ks)). let g = f j ks t.1 in (here_stays id other j j ks (from_else id other j ne) g.0, g.1))
      (at_set ss id j (l ++ m) ks e))

pub splits : (id : ℕ) (l : List Known) → Splits IsLawfulTable id l (rest_knowns l) (first_known l)
splits id l s r at = let g = split_seated r.views r.releases r.seat_of s.views id l r.seated at in
    record { beginning = r.beginning; views = r.views; history = r.history; releases = r.releases; seat_of = g.0; lawful = r.lawful; seated = g.1; seen = r.seen }

pub joins : (id other : ℕ) (l m : List Known) → Joins IsLawfulTable id l other m (l ++ m) []
joins id other l m s r at n at' =
    let was : get_elem? s.views other ≡ some m = sym (set_else s.views id other (l ++ m) n) ∙ at' in
    record { beginning = r.beginning; views = r.views; history = r.history; releases = r.releases; seat_of = merged r.views r.releases r.seat_of id other; lawful = r.lawful; seated = join_seated r.views r.releases r.seat_of s.views id other l m r.seated at n was; seen = r.seen }
