-- The walk along a chain finds the node of a key, and the node before it.
use Rattle.std.proofs.Common.{◌≡◌, ℕ, ◌≤◌, ◌≢◌, ◌==◌, ◌⊎◌, zero, suc, Bool, true, false, None, List, [], ◌∷◌, ◌++◌, length, arith, refl, ap, sym, ◌∙◌, subst, inl, inr, if◌then◌else◌, eq-eqb}
use Rattle.std.proofs.lemmas.Bool.Decides.{eqb_tells}
use Rattle.std.proofs.lemmas.Bool.{ne_eqb, true≢false, false≢true}
use Rattle.room_model.specs.Chains.{IsChain, RoomWords}
use Rattle.room_model.specs.MapRoom.{found}
use Rattle.room_model.specs.QueueRoom.{last_line}
use Rattle.room_model.specs.Writes.{line_with, line_before}
use Rattle.room_laws.proofs.Keys.{found-there}

-- the key is not in the list
pub record IsNowhere (r : RoomWords) (key : ℕ) (xs : List ℕ) (n : ℕ) : Type 0 where
  pub zero_line : n ≡ 0
  pub none : found r key xs ≡ None

-- line n has the key, and the walk came to it from this line
pub record IsLocated (r : RoomWords) (key : ℕ) (xs : List ℕ) (start n before : ℕ) : Type 0 where
  pub front : List ℕ
  pub back : List ℕ
  pub is : xs ≡ front ++ n ∷ back
  pub some_line : n ≢ 0
  pub key_of : r n 0 ≡ key
  pub none : found r key front ≡ None
  pub before_is : before ≡ last_line start front

-- one of the two
abbrev pub Located : RoomWords → ℕ → List ℕ → ℕ → ℕ → ℕ → Type 0
Located r key xs start n before = IsNowhere r key xs n ⊎ IsLocated r key xs start n before

-- where line x in front has another key
further : (r : RoomWords) (key x : ℕ) (xs : List ℕ) (start n before : ℕ) → r x 0 ≢ key → Located r key xs x n before → Located r key (x ∷ xs) start n before
further r key x xs start n before ne (inl a) = inl (record { zero_line = a.zero_line; none = found-there r key x xs ne ∙ a.none })
further r key x xs start n before ne (inr a) = inr (record {
  front = x ∷ a.front;
  back = a.back;
  is = ap (λ (ys : List ℕ). x ∷ ys) a.is;
  some_line = a.some_line;
  key_of = a.key_of;
  none = found-there r key x a.front ne ∙ a.none;
  before_is = a.before_is;
})

-- one step of the walk, from line x
step : (r : RoomWords) (key fuel before x : ℕ) (xs : List ℕ) → x ≢ 0 → Located r key xs x (line_with r key fuel (r x 2)) (line_before r key fuel x (r x 2))
    → Located r key (x ∷ xs) before (line_with r key (suc fuel) x) (line_before r key (suc fuel) before x)
step r key fuel before x xs ne rest = at_all (x == 0) (ne_eqb x 0 ne)
  where
    at_key : (c : Bool) → ((r x 0 ≡ key) × (c ≡ true)) ⊎ ((r x 0 ≢ key) × (c ≡ false)) → Located r key (x ∷ xs) before (if c then x else line_with r key fuel (r x 2)) (if c then before else line_before r key fuel x (r x 2))
    at_key true (inl a) = inr (record { front = []; back = xs; is = refl; some_line = ne; key_of = a.0; none = refl; before_is = refl })
    at_key true (inr a) = absurd (true≢false a.1)
    at_key false (inl a) = absurd (false≢true a.1)
    at_key false (inr a) = further r key x xs before (line_with r key fuel (r x 2)) (line_before r key fuel x (r x 2)) a.0 rest

    test : ((r x 0 ≡ key) × ((r x 0 == key) ≡ true)) ⊎ ((r x 0 ≢ key) × ((r x 0 == key) ≡ false))
    test = elim (eqb_tells (r x 0) key) [ inl h ↦ inl (h.1, h.0) | inr h ↦ inr (h.1, h.0) ]

    at_all : (b : Bool) → b ≡ false → Located r key (x ∷ xs) before (if b then 0 else if r x 0 == key then x else line_with r key fuel (r x 2)) (if b then before else if r x 0 == key then before else line_before r key fuel x (r x 2))
    at_all true is = absurd (true≢false is)
    at_all false is = at_key (r x 0 == key) test

-- the walk finds the node of a key, or that there is none
pub locate : (r : RoomWords) (key fuel before start : ℕ) (xs : List ℕ) → IsChain (λ x. r x 2) start xs → length xs ≤ fuel → Located r key xs before (line_with r key fuel start) (line_before r key fuel before start)
locate r key zero before start [] chain fits = inl (record { zero_line = refl; none = refl })
locate r key zero before start (x ∷ xs) chain fits = absurd (omega arith)
locate r key (suc fuel) before start [] chain fits =
    inl (record { zero_line = ap (λ (b : Bool). if b then 0 else if r start 0 == key then start else line_with r key fuel (r start 2)) (eq-eqb start 0 chain); none = refl })
locate r key (suc fuel) before start (x ∷ xs) chain fits =
    let rest = locate r key fuel x (r x 2) xs chain.2 (omega arith) in
    subst (λ (s : ℕ). Located r key (x ∷ xs) before (line_with r key (suc fuel) s) (line_before r key (suc fuel) before s)) (sym chain.0) (step r key fuel before x xs chain.1 rest)
