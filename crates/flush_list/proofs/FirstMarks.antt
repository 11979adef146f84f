-- The lines of a list are the first marks of those that marked it, and these have each marked line once.
use Rattle.std.proofs.Common.{◌≡◌, ℕ, Bool, true, false, cond, not, ◌&&◌, ◌||◌, ◌-◌, nat_eq, List, [], ◌∷◌, ◌++◌, filter, if◌then◌else◌, refl, sym, ap, subst, ◌∙◌, append_assoc, arith}
use Rattle.std.specs.List.{IsDistinct, AllByRecursion}
use Rattle.std.proofs.lemmas.List.{append-nil}
use Rattle.std.proofs.lemmas.List.Folds.{list_any-append}
use Rattle.std.proofs.lemmas.Map.Views.{any-filter_same}
use Rattle.std.proofs.lemmas.Bool.{eqb-true}
use Rattle.std.proofs.lemmas.Bool.Decides.{nat_tests}
use Rattle.std.proofs.lemmas.Grind.{common_steps}
use Rattle.flush_list.specs.Lists.{FlushListState, unmarked, is_listed, marked, marked_all, first_marks}
use Rattle.flush_list.specs.Laws.{FirstMarksLaw, MarkedLaw, OnceLaw}

-- a filter by two tests is a filter by one and then by the other
filter_twice : (p q r : ℕ → Bool) → ((x : ℕ) → r x ≡ (q x && p x)) → (xs : List ℕ) → filter r xs ≡ filter p (filter q xs)
filter_twice p q r h [] = refl
filter_twice p q r h (x ∷ xs) = by (q x) (p x) refl refl (h x) (filter_twice p q r h xs)
  where
    by : (a b : Bool) → q x ≡ a → p x ≡ b → r x ≡ (q x && p x) → filter r xs ≡ filter p (filter q xs) → filter r (x ∷ xs) ≡ filter p (filter q (x ∷ xs))
    by true true qx px rx rest = grind (arith, common_steps, qx, px, rx, rest)
    by true false qx px rx rest = grind (arith, common_steps, qx, px, rx, rest)
    by false true qx px rx rest = grind (arith, common_steps, qx, px, rx, rest)
    by false false qx px rx rest = grind (arith, common_steps, qx, px, rx, rest)

-- whether the line is not one of these
abbrev is_new : List ℕ → ℕ → Bool
is_new lines line = not (is_listed lines line)

-- whether the line is another one
abbrev is_other : ℕ → ℕ → Bool
is_other m line = not (nat_eq line m)

-- behind a listed line nothing else is new
new_behind_listed : (lines : List ℕ) (m : ℕ) → is_listed lines m ≡ true → (x : ℕ) → is_new lines x ≡ (is_other m x && is_new lines x)
new_behind_listed lines m is x = by (nat_eq x m) refl
  where
    by : (b : Bool) → nat_eq x m ≡ b → is_new lines x ≡ (is_other m x && is_new lines x)
    by true e = rw e (ap (λ y. is_new lines y) (eqb-true x m e) ∙ ap not is)
    by false e = rw e refl

-- behind one more line that is new which was new and is another
new_behind_joined : (lines : List ℕ) (m x : ℕ) → is_new (lines ++ m ∷ []) x ≡ (is_other m x && is_new lines x)
new_behind_joined lines m x = ap not (list_any-append (nat_eq x) lines (m ∷ [])) ∙ by (nat_eq x m) (is_listed lines x)
  where
    by : (a b : Bool) → not (b || (a || false)) ≡ (not a && not b)
    by true true = refl
    by true false = refl
    by false true = refl
    by false false = refl

-- the marks that are not listed yet join behind the lines
joined : (f : FlushListState) (marks : List ℕ) → (marked_all f marks).lines ≡ f.lines ++ filter (is_new f.lines) (first_marks marks)
joined f [] = sym (append-nil f.lines)
joined f (m ∷ ms) = by (is_listed f.lines m) refl (joined (marked f m) ms)
  where
    others : List ℕ
    others = filter (is_other m) (first_marks ms)

    grown : FlushListState
    grown = record f { lines = f.lines ++ m ∷ []; spare = f.spare - 1 }

    Holds : FlushListState → Type 0
    Holds g = (marked_all g ms).lines ≡ g.lines ++ filter (is_new g.lines) (first_marks ms)

    by : (b : Bool) → is_listed f.lines m ≡ b → Holds (marked f m) → (marked_all f (m ∷ ms)).lines ≡ f.lines ++ filter (is_new f.lines) (first_marks (m ∷ ms))
    by true is rest =
        let e : marked f m ≡ f = ap (λ b. if b then f else grown) is in
        ap (λ g. (marked_all g ms).lines) e ∙ subst Holds e rest
        ∙ ap (λ xs. f.lines ++ xs) (filter_twice (is_new f.lines) (is_other m) (is_new f.lines) (new_behind_listed f.lines m is) (first_marks ms)
        ∙ sym (ap (λ b. cond (not b) (m ∷ filter (is_new f.lines) others) (filter (is_new f.lines) others)) is))
    by false is rest =
        let e : marked f m ≡ grown = ap (λ b. if b then f else grown) is in
        ap (λ g. (marked_all g ms).lines) e ∙ subst Holds e rest
        ∙ append_assoc f.lines (m ∷ []) (filter (is_new (f.lines ++ m ∷ [])) (first_marks ms))
        ∙ ap (λ xs. f.lines ++ m ∷ xs) (filter_twice (is_new f.lines) (is_other m) (is_new (f.lines ++ m ∷ [])) (new_behind_joined f.lines m) (first_marks ms))
        ∙ ap (λ xs. f.lines ++ xs) (sym (ap (λ b. cond (not b) (m ∷ filter (is_new f.lines) others) (filter (is_new f.lines) others)) is))

pub first_marks_law : FirstMarksLaw
first_marks_law spare marks = joined (unmarked spare) marks ∙ all_new (first_marks marks)
  where
    all_new : (xs : List ℕ) → filter (is_new []) xs ≡ xs
    all_new [] = refl
    all_new (x ∷ xs) = ap (λ ys. x ∷ ys) (all_new xs)

pub marked_law : MarkedLaw
marked_law [] line = refl
marked_law (m ∷ ms) line = by (nat_eq line m) refl (marked_law ms line)
  where
    by : (b : Bool) → nat_eq line m ≡ b → is_listed (first_marks ms) line ≡ is_listed ms line → is_listed (first_marks (m ∷ ms)) line ≡ is_listed (m ∷ ms) line
    by true e rest = rw e refl
    by false e rest = rw e (any-filter_same (nat_eq line) (is_other m) true (λ k same. ap (λ x. not (nat_eq x m)) (sym (eqb-true line k same)) ∙ ap not e) (first_marks ms)
        ∙ rest)

-- the others are different from the line
all_others : (m : ℕ) (xs : List ℕ) → AllByRecursion (λ x. nat_eq m x ≡ false) (filter (is_other m) xs)
all_others m [] = tt
all_others m (x ∷ xs) = by (nat_eq x m) refl (all_others m xs)
  where
    P : ℕ → Type 0
    P y = nat_eq m y ≡ false

    by : (b : Bool) → nat_eq x m ≡ b → AllByRecursion P (filter (is_other m) xs) → AllByRecursion P (filter (is_other m) (x ∷ xs))
    by true e rest = rw e rest
    by false e rest = rw e (grind (arith, nat_tests, e), rest)

-- what each of these is, each that a filter keeps is
all_kept : (P : ℕ → Type 0) (p : ℕ → Bool) (xs : List ℕ) → AllByRecursion P xs → AllByRecursion P (filter p xs)
all_kept P p [] h = tt
all_kept P p (x ∷ xs) h = by (p x) refl (all_kept P p xs h.1)
  where
    by : (b : Bool) → p x ≡ b → AllByRecursion P (filter p xs) → AllByRecursion P (filter p (x ∷ xs))
    by true e rest = rw e (h.0, rest)
    by false e rest = rw e rest

-- a filter leaves no line twice where none was
once_kept : (p : ℕ → Bool) (xs : List ℕ) → IsDistinct nat_eq xs → IsDistinct nat_eq (filter p xs)
unfolding IsDistinct
once_kept p [] h = tt
once_kept p (x ∷ xs) h = by (p x) refl (once_kept p xs h.1)
  where
    by : (b : Bool) → p x ≡ b → IsDistinct nat_eq (filter p xs) → IsDistinct nat_eq (filter p (x ∷ xs))
    by true e rest = rw e (all_kept (λ y. nat_eq x y ≡ false) p xs h.0, rest)
    by false e rest = rw e rest

pub once_law : OnceLaw
unfolding IsDistinct
once_law [] = tt
once_law (m ∷ ms) = (all_others m (first_marks ms), once_kept (is_other m) (first_marks ms) (once_law ms))
