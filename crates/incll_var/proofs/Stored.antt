-- The lines that were stored to: how many they are, behind a store, and in a closing.
use Rattle.std.proofs.Common.{◌≡◌, ℕ, ◌+◌, ◌-◌, ◌<◌, ◌≤◌, ◌||◌, zero, suc, Bool, true, false, nat_eq, nat_lt, List, [], ◌∷◌, ◌++◌, length, arith, refl, ap, sym, ◌∙◌, subst, true≢false, if◌then◌else◌, count_by, set, get_or, inl, inr, get_or-set_same, get_or-set_other}
use Rattle.std.specs.List.{IsDistinct, AllByRecursion}
use Rattle.std.specs.Cmp.{nat_eq_equiv}
use Rattle.std.proofs.lemmas.Map.Keys.{IsDistinct-push}
use Rattle.std.proofs.lemmas.List.{get_or_past}
use Rattle.std.proofs.lemmas.List.Folds.{list_any-append}
use Rattle.std.proofs.lemmas.Bool.{cases_lt, eqb-true, eq-eqb, ltb-true, lt-ltb, le-ltb}
use Rattle.std.proofs.lemmas.Bool.Decides.{eqb_tells, nat_tests}
use Rattle.flush_list.specs.Lists.{FlushListState, is_listed, listed_behind, marked}
use Rattle.line_memory.specs.Line.{LineState, line_at, no_line, is_pending, is_unasked, unasked, written_back}
use Rattle.incll_var.specs.Stored.{AreStored, AreWritten, first_unasked, has_places}
use Rattle.incll_var.proofs.Counts.{counted_less, counted_none, counted_some, counted_more}

or_true : (b : Bool) → (b || true) ≡ true
or_true true = refl
or_true false = refl

-- the first of a list is listed, and what is behind it is
listed_here : (x : ℕ) (xs : List ℕ) → is_listed (x ∷ xs) x ≡ true
listed_here x xs = ap (λ (b : Bool). b || is_listed xs x) (eq-eqb x x refl)

listed_there : (x : ℕ) (xs : List ℕ) (i : ℕ) → is_listed xs i ≡ true → is_listed (x ∷ xs) i ≡ true
listed_there x xs i h = ap (λ (b : Bool). nat_eq i x || b) h ∙ or_true (nat_eq i x)

-- a number that is different from each of these is not listed
not_listed : (x : ℕ) (xs : List ℕ) → AllByRecursion (λ y. nat_eq x y ≡ false) xs → is_listed xs x ≡ false
not_listed x [] h = refl
not_listed x (y ∷ ys) h = ap (λ (b : Bool). b || is_listed ys x) h.0 ∙ not_listed x ys h.1

distinct_head : (x : ℕ) (xs : List ℕ) → IsDistinct nat_eq (x ∷ xs) → AllByRecursion (λ y. nat_eq x y ≡ false) xs × IsDistinct nat_eq xs
unfolding IsDistinct
distinct_head x xs h = h

pub none_once : IsDistinct nat_eq []
unfolding IsDistinct
none_once = tt

-- lines with a test that holds of those listed and of no other are as many as the list
pub listed_count : (p : LineState → Bool) → p no_line ≡ false → (stored : List ℕ) (lines : List LineState) → IsDistinct nat_eq stored → ((i : ℕ) → is_listed stored i ≡ p (line_at lines i)) → count_by p lines ≡ length stored
listed_count p none [] lines once exact = counted_none p lines (λ i. sym (exact i))
listed_count p none (x ∷ xs) lines once exact =
    let parts = distinct_head x xs once in
    let here : p (line_at lines x) ≡ true = sym (exact x) ∙ listed_here x xs in
    let there = (counted_some p lines x none here).0 in
    counted_less p lines x no_line there here none
    ∙ ap (λ (n : ℕ). n + 1) (listed_count p none xs (set lines x no_line) parts.1 (λ i. elim (eqb_tells i x) [
      | inl h ↦
          subst (λ (k : ℕ). is_listed xs k ≡ p (line_at (set lines x no_line) k)) (sym h.1)
          (not_listed x xs parts.0 ∙ sym none ∙ ap (λ (l : LineState). p l) (sym (get_or-set_same lines x no_line no_line there)))
      | inr h ↦
          ap (λ (b : Bool). b || is_listed xs i) (sym h.0) ∙ exact i ∙ ap (λ (l : LineState). p l) (sym (get_or-set_other lines x i no_line no_line h.1))
    ]))
    ∙ longer xs
  where
    longer : (xs : List ℕ) → length xs + 1 ≡ length (x ∷ xs)
    longer xs = omega arith

pub stored_count : (lines : List LineState) (stored : List ℕ) → AreStored lines stored → count_by is_pending lines ≡ length stored
stored_count lines stored h = listed_count is_pending refl stored lines h.once h.exact

-- the lines behind a mark
pub marked_lines : (f : FlushListState) (line : ℕ) → (marked f line).lines ≡ listed_behind f.lines line
marked_lines f line = by (is_listed f.lines line)
  where
    grown : FlushListState
    grown = record f { lines = f.lines ++ line ∷ []; spare = f.spare - 1 }

    by : (b : Bool) → (if b then f else grown).lines ≡ (if b then f.lines else f.lines ++ line ∷ [])
    by true = refl
    by false = refl

listed_either : (lines : List ℕ) (line i : ℕ) → is_listed (listed_behind lines line) i ≡ (is_listed lines i || nat_eq i line)
listed_either lines line i = by (is_listed lines line) refl (nat_eq i line) refl
  where
    Same : Bool → Type 0
    Same b = is_listed (if b then lines else lines ++ line ∷ []) i ≡ (is_listed lines i || nat_eq i line)

    or_false : (b : Bool) → b ≡ (b || false)
    or_false true = refl
    or_false false = refl

    by : (b : Bool) → is_listed lines line ≡ b → (e : Bool) → nat_eq i line ≡ e → Same b
    by false is e same = list_any-append (nat_eq i) lines (line ∷ []) ∙ ap (λ (b : Bool). is_listed lines i || b) (sym (or_false (nat_eq i line)))
    by true is true same =
        let i_is : i ≡ line = eqb-true i line same in
        let here : is_listed lines i ≡ true = ap (λ (k : ℕ). is_listed lines k) i_is ∙ is in
        here ∙ sym (ap (λ (b : Bool). b || nat_eq i line) here)
    by true is false same = or_false (is_listed lines i) ∙ ap (λ (b : Bool). is_listed lines i || b) (sym same)

listed_once : (lines : List ℕ) (line : ℕ) → IsDistinct nat_eq lines → IsDistinct nat_eq (listed_behind lines line)
listed_once lines line once = by (is_listed lines line) refl
  where
    by : (b : Bool) → is_listed lines line ≡ b → IsDistinct nat_eq (if b then lines else lines ++ line ∷ [])
    by true is = once
    by false is = IsDistinct-push nat_eq_equiv lines line once is

-- a store to a line lists it
pub stored_behind : (lines : List LineState) (stored : List ℕ) (line : ℕ) (k : LineState) → AreStored lines stored → line < length lines → is_pending k ≡ true → AreStored (set lines line k) (listed_behind stored line)
stored_behind lines stored line k h lt pending = record {
  once = listed_once stored line h.once;
  exact = λ i. listed_either stored line i ∙ elim (eqb_tells i line) [
    | inl e ↦
        ap (λ (b : Bool). is_listed stored i || b) e.0 ∙ or_true (is_listed stored i) ∙ sym pending
        ∙ ap (λ (l : LineState). is_pending l) (sym (get_or-set_same lines line k no_line lt)) ∙ ap (λ (j : ℕ). is_pending (line_at (set lines line k) j)) (sym e.1)
    | inr e ↦
        ap (λ (b : Bool). is_listed stored i || b) e.0 ∙ or_none (is_listed stored i) ∙ h.exact i ∙ ap (λ (l : LineState). is_pending l) (sym (get_or-set_other lines line i k no_line e.1))
  ];
}
  where
    or_none : (b : Bool) → (b || false) ≡ b
    or_none true = refl
    or_none false = refl

-- the same lines, where the tests are the same
pub stored_alike : (ls ks : List LineState) (stored : List ℕ) → ((i : ℕ) → is_pending (line_at ks i) ≡ is_pending (line_at ls i)) → AreStored ls stored → AreStored ks stored
stored_alike ls ks stored same h = record { once = h.once; exact = λ i. h.exact i ∙ sym (same i) }

pub written_alike : (n : ℕ) (ls ks : List LineState) (stored : List ℕ) → ((i : ℕ) → is_unasked (line_at ks i) ≡ is_unasked (line_at ls i)) → AreWritten n ls stored → AreWritten n ks stored
written_alike n ls ks [] same h = tt
written_alike zero ls ks (x ∷ xs) same h = (same x ∙ h.0, written_alike zero ls ks xs same h.1)
written_alike (suc n) ls ks (x ∷ xs) same h = (same x ∙ h.0, written_alike n ls ks xs same h.1)

-- lines on which nothing is pending are none
pub none_stored : (lines : List LineState) → ((i : ℕ) → i < length lines → (line_at lines i).pending ≡ []) → AreStored lines []
none_stored lines none = record {
  once = none_once;
  exact = λ i. elim (cases_lt i (length lines)) [
    | inl lt ↦ sym (ap (λ ss. nat_lt 0 (length ss)) (none i lt))
    | inr ge ↦ sym (ap (λ (l : LineState). is_pending l) (get_or_past lines i no_line ge))
  ];
}

open_unasked : (l : LineState) → l.asked ≡ 0 → is_pending l ≡ true → is_unasked l ≡ true
open_unasked l none is = ap (λ (n : ℕ). nat_lt n (length l.pending)) none ∙ is

quiet_unasked : (l : LineState) → is_pending l ≡ false → is_unasked l ≡ false
quiet_unasked l is = le-ltb l.asked (length l.pending) (let none : length l.pending ≤ 0 = grind (arith, nat_tests, is) in omega (arith, none))

-- where nothing is asked for, none of the lines is written back
pub open_written : (lines : List LineState) (stored : List ℕ) → ((i : ℕ) → (line_at lines i).asked ≡ 0) → ((i : ℕ) → is_listed stored i ≡ true → is_pending (line_at lines i) ≡ true) → AreWritten 0 lines stored
open_written lines [] none listed = tt
open_written lines (x ∷ xs) none listed = (
  open_unasked (line_at lines x) (none x) (listed x (listed_here x xs)),
  open_written lines xs none (λ i h. listed i (listed_there x xs i h)),
)

-- and none of them was given
pub open_given : (n : ℕ) (lines : List LineState) (stored : List ℕ) → n ≤ length stored → AreWritten 0 lines stored → AreWritten n lines stored → n ≡ 0
open_given zero lines stored le first h = refl
open_given (suc n) lines [] le first h = absurd (omega (arith, le))
open_given (suc n) lines (x ∷ xs) le first h = absurd (true≢false (sym first.0 ∙ h.0))

-- the line that is next
pub next_is : (n : ℕ) (lines : List LineState) (stored : List ℕ) → n < length stored → AreWritten n lines stored
    → (first_unasked lines stored ≡ get_or stored n 0) × (is_unasked (line_at lines (get_or stored n 0)) ≡ true)
next_is n lines [] lt h = absurd (omega (arith, lt))
next_is zero lines (x ∷ xs) lt h = (ap (λ (b : Bool). if b then x else first_unasked lines xs) h.0, h.0)
next_is (suc n) lines (x ∷ xs) lt h =
    let rest = next_is n lines xs (omega (arith, lt)) h.1 in
    (ap (λ (b : Bool). if b then x else first_unasked lines xs) h.0 ∙ rest.0, rest.1)

-- where all are given, none of them has something that was not asked for
all_written : (n : ℕ) (lines : List LineState) (stored : List ℕ) → length stored ≤ n → AreWritten n lines stored → (i : ℕ) → is_listed stored i ≡ true → is_unasked (line_at lines i) ≡ false
all_written n lines [] le h i is = absurd (true≢false (sym is))
all_written zero lines (x ∷ xs) le h i is = absurd (omega (arith, le))
all_written (suc n) lines (x ∷ xs) le h i is = elim (eqb_tells i x) [
  | inl e ↦ subst (λ (k : ℕ). is_unasked (line_at lines k) ≡ false) (sym e.1) h.0
  | inr e ↦ all_written n lines xs (omega (arith, le)) h.1 i (sym (ap (λ (b : Bool). b || is_listed xs i) e.0) ∙ is)
]

pub none_left : (n : ℕ) (lines : List LineState) (stored : List ℕ) → AreStored lines stored → length stored ≤ n → AreWritten n lines stored → unasked lines ≡ 0
none_left n lines stored all le h = counted_none is_unasked lines (λ i. by i (is_listed stored i) refl)
  where
    by : (i : ℕ) (b : Bool) → is_listed stored i ≡ b → is_unasked (line_at lines i) ≡ false
    by i true is = all_written n lines stored le h i is
    by i false is = quiet_unasked (line_at lines i) (sym (all.exact i) ∙ is)

pub some_left : (n : ℕ) (lines : List LineState) (stored : List ℕ) → n < length stored → AreWritten n lines stored → (get_or stored n 0 < length lines) × (0 < unasked lines)
some_left n lines stored lt h = counted_some is_unasked lines (get_or stored n 0) refl (next_is n lines stored lt h).1

other_line : (lines : List LineState) (x y : ℕ) (k : LineState) → nat_eq x y ≡ false → is_unasked (line_at (set lines x k) y) ≡ is_unasked (line_at lines y)
other_line lines x y k other = ap (λ (l : LineState). is_unasked l) (get_or-set_other lines x y k no_line (λ e. true≢false (sym (eq-eqb x y (sym e)) ∙ other)))

-- a line that none of these is may change
written_other : (n : ℕ) (lines : List LineState) (stored : List ℕ) (x : ℕ) (k : LineState) → AllByRecursion (λ y. nat_eq x y ≡ false) stored → AreWritten n lines stored → AreWritten n (set lines x k) stored
written_other n lines [] x k other h = tt
written_other zero lines (y ∷ ys) x k other h = (other_line lines x y k other.0 ∙ h.0, written_other zero lines ys x k other.1 h.1)
written_other (suc n) lines (y ∷ ys) x k other h = (other_line lines x y k other.0 ∙ h.0, written_other n lines ys x k other.1 h.1)

-- the line at a place is none of those before
apart : (x : ℕ) (xs : List ℕ) (n : ℕ) → n < length xs → AllByRecursion (λ y. nat_eq x y ≡ false) xs → nat_eq x (get_or xs n 0) ≡ false
apart x [] n lt h = absurd (omega (arith, lt))
apart x (y ∷ ys) zero lt h = h.0
apart x (y ∷ ys) (suc n) lt h = apart x ys n (omega (arith, lt)) h.1

-- the next line is written back
pub written_next : (n : ℕ) (lines : List LineState) (stored : List ℕ) → IsDistinct nat_eq stored → n < length stored → get_or stored n 0 < length lines → AreWritten n lines stored
    → AreWritten (suc n) (set lines (get_or stored n 0) (written_back (line_at lines (get_or stored n 0)))) stored
written_next n lines [] once lt within h = absurd (omega (arith, lt))
written_next zero lines (x ∷ xs) once lt within h = (
  ap (λ (l : LineState). is_unasked l) (get_or-set_same lines x (written_back (line_at lines x)) no_line within) ∙ le-ltb (length (line_at lines x).pending) (length (line_at lines x).pending) (omega arith),
  written_other zero lines xs x (written_back (line_at lines x)) (distinct_head x xs once).0 h.1,
)
written_next (suc n) lines (x ∷ xs) once lt within h =
    let parts = distinct_head x xs once in
    let y : ℕ = get_or xs n 0 in
    let other : nat_eq x y ≡ false = apart x xs n (omega (arith, lt)) parts.0 in (
      ap (λ (l : LineState). is_unasked l) (get_or-set_other lines y x (written_back (line_at lines y)) no_line (λ e. true≢false (sym (eq-eqb x y e) ∙ other))) ∙ h.0,
      written_next n lines xs parts.1 (omega (arith, lt)) within h.1,
    )

-- whether a store is pending on a line is the same behind its write-back
pub written_pending : (lines : List LineState) (x : ℕ) → x < length lines → (i : ℕ) → is_pending (line_at (set lines x (written_back (line_at lines x))) i) ≡ is_pending (line_at lines i)
written_pending lines x lt i = elim (eqb_tells i x) [
  | inl e ↦ subst (λ (k : ℕ). is_pending (line_at (set lines x (written_back (line_at lines x))) k) ≡ is_pending (line_at lines k)) (sym e.1) (ap (λ (l : LineState). is_pending l) (get_or-set_same lines x (written_back (line_at lines x)) no_line lt))
  | inr e ↦ ap (λ (l : LineState). is_pending l) (get_or-set_other lines x i (written_back (line_at lines x)) no_line e.1)
]

-- a line with a place that was not stored to has one in the list
pub place_left : (lines : List LineState) (stored : List ℕ) (places line : ℕ) → AreStored lines stored → count_by has_places lines ≤ length stored + places → line < length lines → 0 < (line_at lines line).spare
    → is_listed stored line ≡ false → 0 < places
place_left lines stored places line h fits lt some new =
    let count = stored_count lines stored h in
    let more = counted_more is_pending has_places lines line pending_places lt (sym (h.exact line) ∙ new) (lt-ltb 0 (length (line_at lines line).pending + (line_at lines line).spare) (omega (arith, some))) in
    omega (arith, count, more, fits)
  where
    pending_places : (l : LineState) → is_pending l ≡ true → has_places l ≡ true
    pending_places l is = let some = ltb-true 0 (length l.pending) is in lt-ltb 0 (length l.pending + l.spare) (omega (arith, some))
