-- Calls of `next` give the lines of a list from the first that is not given on.
use Rattle.std.proofs.Common.{◌≡◌, ℕ, zero, suc, ◌+◌, ◌≤◌, ◌<◌, Bool, true, false, nat_lt, List, [], ◌∷◌, ◌++◌, length, drop, get_or, if◌then◌else◌, drop-cons, add-one, refl, sym, ap, subst, ◌∙◌, arith}
use Rattle.std.proofs.lemmas.List.{drop_all}
use Rattle.std.proofs.lemmas.Bool.{ltb-true, ltb-false}
use Rattle.std.proofs.lemmas.Option.{slice_get-get_or, slice_get_past}
use Rattle.flush_list.specs.Lists.{FlushListState, one_or_none, unmarked, is_listed, marked, marked_all, next_line, first_marks}
use Rattle.flush_list.specs.Laws.{given_by, GivenLaw}
use Rattle.flush_list.proofs.FirstMarks.{first_marks_law}

-- so many calls give the lines that are left, where these are no more
pub from_given : (calls : ℕ) (f : FlushListState) → length f.lines ≤ calls + f.given → given_by f calls ≡ drop f.given f.lines
from_given zero f h = sym (drop_all f.given f.lines (omega (arith, h)))
from_given (suc n) f h = by (nat_lt f.given (length f.lines)) refl (from_given n further) (from_given n f)
  where
    further : FlushListState
    further = record f { given = f.given + 1 }

    Gives : FlushListState → Type 0
    Gives g = length g.lines ≤ n + g.given → given_by g n ≡ drop g.given g.lines

    by : (b : Bool) → nat_lt f.given (length f.lines) ≡ b → Gives further → Gives f → given_by f (suc n) ≡ drop f.given f.lines
    by true is on stays =
        let there : f.given < length f.lines = ltb-true f.given (length f.lines) is in
        ap (λ g. one_or_none (next_line f) ++ given_by g n) (ap (λ b. if b then further else f) is)
        ∙ ap (λ line. one_or_none line ++ given_by further n) (slice_get-get_or f.lines f.given 0 there)
        ∙ ap (λ xs. get_or f.lines f.given 0 ∷ xs) (on (omega (arith, h)) ∙ ap (λ k. drop k f.lines) (add-one f.given))
        ∙ sym (drop-cons f.lines f.given 0 there)
    by false is on stays =
        let none : length f.lines ≤ f.given = ltb-false f.given (length f.lines) is in
        ap (λ g. one_or_none (next_line f) ++ given_by g n) (ap (λ b. if b then further else f) is)
        ∙ ap (λ line. one_or_none line ++ given_by f n) (slice_get_past f.lines f.given none)
        ∙ stays (omega (arith, none))

-- marks give no line
none_given : (f : FlushListState) (marks : List ℕ) → (marked_all f marks).given ≡ f.given
none_given f [] = refl
none_given f (m ∷ ms) = none_given (marked f m) ms ∙ by (is_listed f.lines m) refl
  where
    by : (b : Bool) → is_listed f.lines m ≡ b → (marked f m).given ≡ f.given
    by true is = grind (arith, is)
    by false is = grind (arith, is)

pub given_law : GivenLaw
given_law spare marks calls h =
    let f : FlushListState = marked_all (unmarked spare) marks in
    let order : f.lines ≡ first_marks marks = first_marks_law spare marks in
    let none : f.given ≡ 0 = none_given (unmarked spare) marks in
    from_given calls f (subst (λ xs. length xs ≤ calls + f.given) (sym order) (omega (arith, h))) ∙ ap (λ n. drop n f.lines) none ∙ order
