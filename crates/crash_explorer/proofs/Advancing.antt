-- An odometer of counts: each goes on to the next, and all are met.
use Rattle.std.proofs.Common.{◌≡◌, ℕ, zero, suc, ◌+◌, ◌*◌, ◌<◌, ◌≤◌, Bool, true, false, cond, nat_lt, List, [], ◌∷◌, length, slice_index, set, replicate, ap, refl, arith, inl, inr, ◌⊎◌, ltb-true, ltb-false, le-ltb, lt-ltb}
use Rattle.std.proofs.lemmas.Bool.{cases_lt}
use Rattle.std.proofs.Math.Nat.{mul-add}
use Rattle.crash_explorer.specs.Cut.{AreWithin}
use Rattle.crash_explorer.specs.Order.{Earlier, advanced, ahead, survivor_count}

-- whether counts come behind these
abbrev pub has_next : List ℕ → List ℕ → Bool
has_next [] ms = false
has_next (k ∷ ks) [] = false
has_next (k ∷ ks) (m ∷ ms) = cond (nat_lt k m) true (has_next ks ms)

-- the first so many counts as they are, and the counts behind the rest
abbrev pub advanced_from : ℕ → List ℕ → List ℕ → List ℕ
advanced_from zero ks ms = advanced ks ms
advanced_from (suc i) [] ms = []
advanced_from (suc i) (k ∷ ks) [] = k ∷ ks
advanced_from (suc i) (k ∷ ks) (m ∷ ms) = k ∷ advanced_from i ks ms

-- whether counts come behind those from the i-th on
abbrev pub has_next_from : ℕ → List ℕ → List ℕ → Bool
has_next_from zero ks ms = has_next ks ms
has_next_from (suc i) [] ms = false
has_next_from (suc i) (k ∷ ks) [] = false
has_next_from (suc i) (k ∷ ks) (m ∷ ms) = has_next_from i ks ms

-- a count that is full begins again, and the next one is looked at
pub full_next : (i : ℕ) (ks ms : List ℕ) → i < length ks → AreWithin ks ms → slice_index ms i ≤ slice_index ks i → advanced_from (suc i) (set ks i 0) ms ≡ advanced_from i ks ms
full_next i [] ms lt w full = absurd (omega arith)
full_next i (k ∷ ks) [] lt w full = absurd w
full_next zero (k ∷ ks) (m ∷ ms) lt w full = simp (le-ltb k m full)
full_next (suc i) (k ∷ ks) (m ∷ ms) lt w full = ap (λ (xs : List ℕ). k ∷ xs) (full_next i ks ms (omega arith) w.1 full)

-- and whether there is more is asked of the rest
pub full_more : (i : ℕ) (ks ms : List ℕ) → i < length ks → AreWithin ks ms → slice_index ms i ≤ slice_index ks i → has_next_from (suc i) (set ks i 0) ms ≡ has_next_from i ks ms
full_more i [] ms lt w full = absurd (omega arith)
full_more i (k ∷ ks) [] lt w full = absurd w
full_more zero (k ∷ ks) (m ∷ ms) lt w full = simp (le-ltb k m full)
full_more (suc i) (k ∷ ks) (m ∷ ms) lt w full = full_more i ks ms (omega arith) w.1 full

-- a count that is not full goes on
pub free_next : (i : ℕ) (ks ms : List ℕ) → i < length ks → AreWithin ks ms → slice_index ks i < slice_index ms i → advanced_from i ks ms ≡ set ks i (slice_index ks i + 1)
free_next i [] ms lt w free = absurd (omega arith)
free_next i (k ∷ ks) [] lt w free = absurd w
free_next zero (k ∷ ks) (m ∷ ms) lt w free = simp (lt-ltb k m free)
free_next (suc i) (k ∷ ks) (m ∷ ms) lt w free = ap (λ (xs : List ℕ). k ∷ xs) (free_next i ks ms (omega arith) w.1 free)

-- and there is more
pub free_more : (i : ℕ) (ks ms : List ℕ) → i < length ks → AreWithin ks ms → slice_index ks i < slice_index ms i → has_next_from i ks ms ≡ true
free_more i [] ms lt w free = absurd (omega arith)
free_more i (k ∷ ks) [] lt w free = absurd w
free_more zero (k ∷ ks) (m ∷ ms) lt w free = simp (lt-ltb k m free)
free_more (suc i) (k ∷ ks) (m ∷ ms) lt w free = free_more i ks ms (omega arith) w.1 free

-- behind the last count nothing is left
pub none_next : (i : ℕ) (ks ms : List ℕ) → length ks ≤ i → AreWithin ks ms → (advanced_from i ks ms ≡ ks) × (has_next_from i ks ms ≡ false)
none_next zero [] ms le w = (refl, refl)
none_next (suc i) [] ms le w = (refl, refl)
none_next i (k ∷ ks) [] le w = absurd w
none_next zero (k ∷ ks) (m ∷ ms) le w = absurd (omega arith)
none_next (suc i) (k ∷ ks) (m ∷ ms) le w = let rest = none_next i ks ms (omega arith) w.1 in (ap (λ (xs : List ℕ). k ∷ xs) rest.0, rest.1)

-- counts have one number a line
pub within-length : (ks ms : List ℕ) → AreWithin ks ms → length ks ≡ length ms
within-length [] [] w = refl
within-length [] (m ∷ ms) w = absurd w
within-length (k ∷ ks) [] w = absurd w
within-length (k ∷ ks) (m ∷ ms) w = ap suc (within-length ks ms w.1)

-- a count is at most its line's
pub within-at : (i : ℕ) (ks ms : List ℕ) → AreWithin ks ms → slice_index ks i ≤ slice_index ms i
within-at i [] [] w = omega arith
within-at i [] (m ∷ ms) w = absurd w
within-at i (k ∷ ks) [] w = absurd w
within-at zero (k ∷ ks) (m ∷ ms) w = w.0
within-at (suc i) (k ∷ ks) (m ∷ ms) w = within-at i ks ms w.1

-- a count may be set to what is at most its line's
pub within-set : (i v : ℕ) (ks ms : List ℕ) → AreWithin ks ms → v ≤ slice_index ms i → AreWithin (set ks i v) ms
within-set i v [] [] w le = tt
within-set i v [] (m ∷ ms) w le = absurd w
within-set i v (k ∷ ks) [] w le = absurd w
within-set zero v (k ∷ ks) (m ∷ ms) w le = (le, w.1)
within-set (suc i) v (k ∷ ks) (m ∷ ms) w le = (w.0, within-set i v ks ms w.1 le)

-- counts that agree behind the first line, and are at most these there
same_or_less : (v k : ℕ) (vs ks : List ℕ) → vs ≡ ks → v ≤ k → Earlier (v ∷ vs) (k ∷ ks) ⊎ (v ∷ vs ≡ k ∷ ks)
same_or_less v k vs ks same le = elim (cases_lt v k) [
  | inl lt ↦ inl (inr (same, lt))
  | inr ge ↦ let is : v ≡ k = omega arith in inr (cc)
]

-- what comes before the next counts comes before these, or is these
pub next-earlier : (ks ms vs : List ℕ) → AreWithin ks ms → has_next ks ms ≡ true → AreWithin vs ms → Earlier vs (advanced ks ms) → Earlier vs ks ⊎ (vs ≡ ks)
next-earlier [] ms vs w more wv e = cc
next-earlier (k ∷ ks) [] vs w more wv e = absurd w
next-earlier (k ∷ ks) (m ∷ ms) [] w more wv e = absurd wv
next-earlier (k ∷ ks) (m ∷ ms) (v ∷ vs) w more wv e = by (λ goes. next-earlier ks ms vs w.1 goes wv.1) (nat_lt k m) refl more e
  where
    by : (has_next ks ms ≡ true → Earlier vs (advanced ks ms) → Earlier vs ks ⊎ (vs ≡ ks)) → (b : Bool) → nat_lt k m ≡ b → cond b true (has_next ks ms) ≡ true
        → Earlier (v ∷ vs) (cond b ((k + 1) ∷ ks) (0 ∷ advanced ks ms)) → Earlier (v ∷ vs) (k ∷ ks) ⊎ (v ∷ vs ≡ k ∷ ks)
    by ih true is goes e = elim e [
      | inl before ↦ inl (inl before)
      | inr same ↦ same_or_less v k vs ks same.0 (omega (arith, same.1))
    ]
    by ih false is goes e = elim e [
      | inl before ↦ elim (ih goes before) [
        | inl b ↦ inl (inl b)
        | inr p ↦ same_or_less v k vs ks p (omega (arith, ltb-false k m is, wv.0))
      ]
      | inr same ↦ absurd (omega (arith, same.1))
    ]

-- where none comes behind these, each comes before them or is these
pub last-earlier : (ks ms vs : List ℕ) → AreWithin ks ms → has_next ks ms ≡ false → AreWithin vs ms → Earlier vs ks ⊎ (vs ≡ ks)
last-earlier [] ms [] w none wv = inr refl
last-earlier [] [] (v ∷ vs) w none wv = absurd wv
last-earlier [] (m ∷ ms) (v ∷ vs) w none wv = absurd w
last-earlier (k ∷ ks) [] vs w none wv = absurd w
last-earlier (k ∷ ks) (m ∷ ms) [] w none wv = absurd wv
last-earlier (k ∷ ks) (m ∷ ms) (v ∷ vs) w none wv = by (λ ends. last-earlier ks ms vs w.1 ends wv.1) (nat_lt k m) refl none
  where
    by : (has_next ks ms ≡ false → Earlier vs ks ⊎ (vs ≡ ks)) → (b : Bool) → nat_lt k m ≡ b → cond b true (has_next ks ms) ≡ false → Earlier (v ∷ vs) (k ∷ ks) ⊎ (v ∷ vs ≡ k ∷ ks)
    by ih true is ends = cc
    by ih false is ends = elim (ih ends) [
      | inl b ↦ inl (inl b)
      | inr p ↦ same_or_less v k vs ks p (omega (arith, ltb-false k m is, wv.0))
    ]

-- the next counts have one less behind them
pub next-nearer : (ks ms : List ℕ) → AreWithin ks ms → has_next ks ms ≡ true → ahead (advanced ks ms) ms + 1 ≡ ahead ks ms
next-nearer [] ms w more = cc
next-nearer (k ∷ ks) [] w more = absurd w
next-nearer (k ∷ ks) (m ∷ ms) w more = by (next-nearer ks ms w.1) (nat_lt k m) refl more
  where
    by : (has_next ks ms ≡ true → ahead (advanced ks ms) ms + 1 ≡ ahead ks ms) → (b : Bool) → nat_lt k m ≡ b → cond b true (has_next ks ms) ≡ true
        → ahead (cond b ((k + 1) ∷ ks) (0 ∷ advanced ks ms)) (m ∷ ms) + 1 ≡ ahead (k ∷ ks) (m ∷ ms)
    by ih true is goes = omega (arith, ltb-true k m is)
    by ih false is goes =
        let full : k ≡ m = omega (arith, ltb-false k m is, w.0) in
        let rest : (m + 1) * (ahead (advanced ks ms) ms + 1) ≡ (m + 1) * ahead ks ms = ap (λ (n : ℕ). (m + 1) * n) (ih goes) in
        omega (arith, mul-add (m + 1) (ahead (advanced ks ms) ms) 1)

-- the last counts have none behind them
pub last-ahead : (ks ms : List ℕ) → AreWithin ks ms → has_next ks ms ≡ false → ahead ks ms ≡ 0
last-ahead [] ms w none = refl
last-ahead (k ∷ ks) [] w none = refl
last-ahead (k ∷ ks) (m ∷ ms) w none = by (last-ahead ks ms w.1) (nat_lt k m) refl none
  where
    by : (has_next ks ms ≡ false → ahead ks ms ≡ 0) → (b : Bool) → nat_lt k m ≡ b → cond b true (has_next ks ms) ≡ false → ahead (k ∷ ks) (m ∷ ms) ≡ 0
    by ih true is ends = cc
    by ih false is ends =
        let rest : (m + 1) * ahead ks ms ≡ (m + 1) * 0 = ap (λ (n : ℕ). (m + 1) * n) (ih ends) in
        omega (arith, ltb-false k m is, w.0)

-- the first counts have all others behind them
pub first-ahead : (ms : List ℕ) → ahead (replicate (length ms) 0) ms + 1 ≡ survivor_count ms
first-ahead [] = refl
first-ahead (m ∷ ms) =
    let rest : (m + 1) * (ahead (replicate (length ms) 0) ms + 1) ≡ (m + 1) * survivor_count ms = ap (λ (n : ℕ). (m + 1) * n) (first-ahead ms) in
    omega (arith, mul-add (m + 1) (ahead (replicate (length ms) 0) ms) 1)

-- nothing comes before the first counts
pub none_earlier : (n : ℕ) (vs : List ℕ) → Earlier vs (replicate n 0) → ⊥
none_earlier n [] e = e
none_earlier zero (v ∷ vs) e = e
none_earlier (suc n) (v ∷ vs) e = elim e [
  | inl before ↦ none_earlier n vs before
  | inr same ↦ omega (arith, same.1)
]

-- the first counts are within the lines
pub first-within : (ms : List ℕ) → AreWithin (replicate (length ms) 0) ms
first-within [] = tt
first-within (m ∷ ms) = (omega arith, first-within ms)
