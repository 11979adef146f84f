-- How many lines pass a test, where one line or each is changed.
use Rattle.std.proofs.Common.{◌≡◌, ℕ, ◌+◌, ◌<◌, ◌≤◌, zero, suc, Bool, true, false, List, [], ◌∷◌, length, arith, refl, ap, sym, ◌∙◌, true≢false, count_by, set, inl, inr}
use Rattle.std.proofs.lemmas.Grind.{common_steps}
use Rattle.std.proofs.lemmas.Bool.{cases_lt}
use Rattle.std.proofs.lemmas.List.{get_or_past}
use Rattle.line_memory.specs.Line.{LineState, line_at, no_line}

-- one element that the test held of is changed to one that it does not hold of
pub counted_less : (p : LineState → Bool) (lines : List LineState) (i : ℕ) (k : LineState) → i < length lines → p (line_at lines i) ≡ true → p k ≡ false → count_by p lines ≡ count_by p (set lines i k) + 1
counted_less p [] i k lt was now = absurd (omega arith)
counted_less p (l ∷ lines) zero k lt was now = grind (arith, common_steps)
counted_less p (l ∷ lines) (suc i) k lt was now =
    let more : count_by p lines ≡ count_by p (set lines i k) + 1 = counted_less p lines i k (omega arith) was now in
    grind (arith, common_steps)

-- one element is changed to one that the test tells no different
pub counted_kept : (p : LineState → Bool) (lines : List LineState) (i : ℕ) (k : LineState) → p k ≡ p (line_at lines i) → count_by p (set lines i k) ≡ count_by p lines
counted_kept p [] i k same = refl
counted_kept p (l ∷ lines) zero k same = grind (arith, common_steps)
counted_kept p (l ∷ lines) (suc i) k same =
    let rest : count_by p (set lines i k) ≡ count_by p lines = counted_kept p lines i k same in
    grind (arith, common_steps)

-- one element that is changed counts for one at most
pub counted_most : (p : LineState → Bool) (lines : List LineState) (i : ℕ) (k : LineState) → count_by p (set lines i k) ≤ count_by p lines + 1
counted_most p [] i k = omega arith
counted_most p (l ∷ lines) zero k = grind (arith, common_steps)
counted_most p (l ∷ lines) (suc i) k =
    let rest : count_by p (set lines i k) ≤ count_by p lines + 1 = counted_most p lines i k in
    grind (arith, common_steps)

-- where the tests agree, they count alike
pub counted_alike : (p : LineState → Bool) (ls ks : List LineState) → length ks ≡ length ls → ((i : ℕ) → p (line_at ks i) ≡ p (line_at ls i)) → count_by p ks ≡ count_by p ls
counted_alike p [] [] count h = refl
counted_alike p [] (k ∷ ks) count h = absurd (omega (arith, count))
counted_alike p (l ∷ ls) [] count h = absurd (omega (arith, count))
counted_alike p (l ∷ ls) (k ∷ ks) count h =
    let here : p k ≡ p l = h 0 in
    let rest : count_by p ks ≡ count_by p ls = counted_alike p ls ks (omega (arith, count)) (λ i. h (suc i)) in
    grind (arith, common_steps)

-- a test that holds of no line counts none
pub counted_none : (p : LineState → Bool) (lines : List LineState) → ((i : ℕ) → p (line_at lines i) ≡ false) → count_by p lines ≡ 0
counted_none p [] h = refl
counted_none p (l ∷ lines) h =
    let here : p l ≡ false = h 0 in
    let rest : count_by p lines ≡ 0 = counted_none p lines (λ i. h (suc i)) in
    grind (arith, common_steps)

-- a test that holds of a line there is counts one at least
pub counted_some : (p : LineState → Bool) (lines : List LineState) (i : ℕ) → p no_line ≡ false → p (line_at lines i) ≡ true → (i < length lines) × (0 < count_by p lines)
counted_some p lines i none is = elim (cases_lt i (length lines)) [
  | inl lt ↦ (lt, let less = counted_less p lines i no_line lt is none in omega (arith, less))
  | inr ge ↦ absurd (true≢false (sym is ∙ ap (λ (l : LineState). p l) (get_or_past lines i no_line ge) ∙ none))
]

-- where one test holds wherever another does, and of one line more, it counts more
counted_mono : (p q : LineState → Bool) (lines : List LineState) → ((l : LineState) → p l ≡ true → q l ≡ true) → count_by p lines ≤ count_by q lines
counted_mono p q [] h = omega arith
counted_mono p q (l ∷ lines) h = by (p l) refl (h l) (counted_mono p q lines h)
  where
    by : (b : Bool) → p l ≡ b → (p l ≡ true → q l ≡ true) → count_by p lines ≤ count_by q lines → count_by p (l ∷ lines) ≤ count_by q (l ∷ lines)
    by true is h rest = let also : q l ≡ true = h is in grind (arith, common_steps)
    by false is h rest = grind (arith, common_steps)

pub counted_more : (p q : LineState → Bool) (lines : List LineState) (i : ℕ) → ((l : LineState) → p l ≡ true → q l ≡ true) → i < length lines → p (line_at lines i) ≡ false → q (line_at lines i) ≡ true
    → count_by p lines < count_by q lines
counted_more p q [] i h lt fails holds = absurd (omega arith)
counted_more p q (l ∷ lines) zero h lt fails holds =
    let rest : count_by p lines ≤ count_by q lines = counted_mono p q lines h in
    grind (arith, common_steps)
counted_more p q (l ∷ lines) (suc i) h lt fails holds = by (p l) refl (h l) (counted_more p q lines i h (omega arith) fails holds)
  where
    by : (b : Bool) → p l ≡ b → (p l ≡ true → q l ≡ true) → count_by p lines < count_by q lines → count_by p (l ∷ lines) < count_by q (l ∷ lines)
    by true is h rest = let also : q l ≡ true = h is in grind (arith, common_steps)
    by false is h rest = grind (arith, common_steps)

-- one element that the test held of is changed
pub counted_at_most : (p : LineState → Bool) (lines : List LineState) (i : ℕ) (k : LineState) → i < length lines → p (line_at lines i) ≡ true → count_by p (set lines i k) ≤ count_by p lines
counted_at_most p lines i k lt was = by (p k) refl
  where
    by : (b : Bool) → p k ≡ b → count_by p (set lines i k) ≤ count_by p lines
    by true is = let same = counted_kept p lines i k (is ∙ sym was) in omega (arith, same)
    by false is = let less = counted_less p lines i k lt was is in omega (arith, less)
