-- What the views say together, after one of them has changed.
use Rattle.std.proofs.Common.{◌≡◌, ◌≢◌, ℕ, zero, suc, ◌+◌, ◌≤◌, ◌||◌, cond, Bool, true, false, List, [], ◌∷◌, length, set, sym, refl, ap, ◌∙◌, arith}
use mathlib.Core.Option.{some, some-injective, some-ne-none}
use lib.ListN.{get_elem?}
use Rattle.yard_model.specs.declared.view.View.{View}
use Rattle.yard_model.specs.Knows.{stands, is_closing}
use Rattle.yard_model.specs.World.{stands_at, is_any, total_of, closes, done_in, done_by}

-- a sum over the views, where one has changed
pub total_set : (f : View → ℕ) (vs : List View) (i : ℕ) (v u : View) → get_elem? vs i ≡ some v → total_of f (set vs i u) + f v ≡ total_of f vs + f u
total_set f [] i v u at = absurd (some-ne-none v (sym at))
total_set f (x ∷ xs) zero v u at = let e = ap f (some-injective x v at) in omega (arith, e)
total_set f (x ∷ xs) (suc i) v u at = let e = total_set f xs i v u at in omega (arith, e)

-- each view's part is in the sum
pub total_part : (f : View → ℕ) (vs : List View) (i : ℕ) (v : View) → get_elem? vs i ≡ some v → f v ≤ total_of f vs
total_part f [] i v at = absurd (some-ne-none v (sym at))
total_part f (x ∷ xs) zero v at = let e = ap f (some-injective x v at) in omega (arith, e)
total_part f (x ∷ xs) (suc i) v at = let e = total_part f xs i v at in omega (arith, e)

pub total_same : (f : View → ℕ) (vs : List View) (i : ℕ) (v u : View) → get_elem? vs i ≡ some v → f u ≡ f v → total_of f (set vs i u) ≡ total_of f vs
total_same f vs i v u at same = let e = total_set f vs i v u at in omega (arith, e, same)

pub any_same : (test : View → Bool) (vs : List View) (i : ℕ) (v u : View) → get_elem? vs i ≡ some v → test u ≡ test v → is_any test (set vs i u) ≡ is_any test vs
any_same test [] i v u at same = refl
any_same test (x ∷ xs) zero v u at same = ap (λ (b : Bool). b || is_any test xs) (same ∙ ap test (sym (some-injective x v at)))
any_same test (x ∷ xs) (suc i) v u at same = ap (λ (b : Bool). test x || b) (any_same test xs i v u at same)

-- whether a thread closes, and how many rooms are done, where the changed view closes as it did
pub closes_set : (vs : List View) (i : ℕ) (v u : View) → get_elem? vs i ≡ some v → is_closing u.phase ≡ is_closing v.phase → closes (set vs i u) ≡ closes vs
closes_set = any_same (λ (c : View). is_closing c.phase)

pub done_set : (vs : List View) (i : ℕ) (v u : View) → get_elem? vs i ≡ some v → is_closing u.phase ≡ is_closing v.phase → u.closed.rooms ≡ v.closed.rooms → done_in (set vs i u) ≡ done_in vs
done_set vs i v u at closing rooms = total_same done_by vs i v u at (λ k. cond (closing k) (rooms k) 0)

-- who stands, at each place
pub stands_there : (vs : List View) (i : ℕ) (v : View) → get_elem? vs i ≡ some v → stands_at vs i ≡ stands v.phase
stands_there [] i v at = absurd (some-ne-none v (sym at))
stands_there (x ∷ xs) zero v at = ap (λ (v : View). stands v.phase) (some-injective x v at)
stands_there (x ∷ xs) (suc i) v at = stands_there xs i v at

pub stands_here : (vs : List View) (i : ℕ) (v u : View) → get_elem? vs i ≡ some v → stands_at (set vs i u) i ≡ stands u.phase
stands_here [] i v u at = absurd (some-ne-none v (sym at))
stands_here (x ∷ xs) zero v u at = refl
stands_here (x ∷ xs) (suc i) v u at = stands_here xs i v u at

pub stands_else : (vs : List View) (i j : ℕ) (u : View) → j ≢ i → stands_at (set vs i u) j ≡ stands_at vs j
stands_else [] i j u n = refl
stands_else (x ∷ xs) zero zero u n = absurd (n refl)
stands_else (x ∷ xs) zero (suc j) u n = refl
stands_else (x ∷ xs) (suc i) zero u n = refl
stands_else (x ∷ xs) (suc i) (suc j) u n = stands_else xs i j u (λ e. n (ap suc e))

-- the threads' number bounds a sum of at most one each
pub total_few : (f : View → ℕ) (vs : List View) → ((v : View) → f v ≤ 1) → total_of f vs ≤ length vs
total_few f [] few = omega arith
total_few f (x ∷ xs) few = let a = few x in let b = total_few f xs few in omega (arith, a, b)

-- the changed view passes the test
pub any_here : (test : View → Bool) (vs : List View) (i : ℕ) (v u : View) → get_elem? vs i ≡ some v → test u ≡ true → is_any test (set vs i u) ≡ true
any_here test [] i v u at is = absurd (some-ne-none v (sym at))
any_here test (x ∷ xs) zero v u at is = ap (λ (b : Bool). b || is_any test xs) is
any_here test (x ∷ xs) (suc i) v u at is = ap (λ (b : Bool). test x || b) (any_here test xs i v u at is) ∙ or_true (test x)
  where
    or_true : (b : Bool) → (b || true) ≡ true
    or_true true = refl
    or_true false = refl

-- a view that passes the test is among those that any passes
pub any_there : (test : View → Bool) (vs : List View) (i : ℕ) (v : View) → get_elem? vs i ≡ some v → test v ≡ true → is_any test vs ≡ true
any_there test [] i v at is = absurd (some-ne-none v (sym at))
any_there test (x ∷ xs) zero v at is = ap (λ (b : Bool). b || is_any test xs) (ap test (some-injective x v at) ∙ is)
any_there test (x ∷ xs) (suc i) v at is = ap (λ (b : Bool). test x || b) (any_there test xs i v at is) ∙ or_true (test x)
  where
    or_true : (b : Bool) → (b || true) ≡ true
    or_true true = refl
    or_true false = refl

-- no view passes a test, and no view gives something to a sum
pub none_any : (test : View → Bool) (vs : List View) → ((i : ℕ) (v : View) → get_elem? vs i ≡ some v → test v ≡ false) → is_any test vs ≡ false
none_any test [] none = refl
none_any test (x ∷ xs) none = ap (λ (b : Bool). b || is_any test xs) (none 0 x refl) ∙ none_any test xs (λ i v e. none (suc i) v e)

pub none_total : (f : View → ℕ) (vs : List View) → ((i : ℕ) (v : View) → get_elem? vs i ≡ some v → f v ≡ 0) → total_of f vs ≡ 0
none_total f [] none = refl
none_total f (x ∷ xs) none = let a = none 0 x refl in let b = none_total f xs (λ i v e. none (suc i) v e) in omega (arith, a, b)

-- past the last view nobody stands
pub stands_past : (vs : List View) (j : ℕ) → length vs ≤ j → stands_at vs j ≡ false
stands_past [] j le = refl
stands_past (x ∷ xs) zero le = absurd (omega (arith, le))
stands_past (x ∷ xs) (suc j) le = stands_past xs j (omega (arith, le))

-- a sum to which only one view gives something
pub total_one : (f : View → ℕ) (vs : List View) (i : ℕ) (v : View) → get_elem? vs i ≡ some v → ((j : ℕ) (u : View) → j ≢ i → get_elem? vs j ≡ some u → f u ≡ 0) → total_of f vs ≡ f v
total_one f [] i v at none = absurd (some-ne-none v (sym at))
total_one f (x ∷ xs) zero v at none = let a = ap f (some-injective x v at) in let b = none_total f xs (λ j u e. none (suc j) u (λ n. omega (arith, n)) e) in omega (arith, a, b)
total_one f (x ∷ xs) (suc i) v at none = let a = none 0 x (λ n. omega (arith, n)) refl in let b = total_one f xs i v at (λ j u n e. none (suc j) u (λ m. n (omega (arith, m))) e) in omega (arith, a, b)
