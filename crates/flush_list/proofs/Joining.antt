-- A line that is not listed yet joins the list: as its first line, or behind the others.
use Rattle.std.proofs.Common.{◌≡◌, ℕ, ◌+◌, ◌-◌, ◌<◌, ◌≤◌, false, nat_eq, List, [], ◌∷◌, ◌++◌, Option, Some, None, is_some, Bool, ◌||◌, true, true≢false, refl, sym, subst, ◌∙◌, append_assoc, arith}
use Rattle.std.specs.List.{IsDistinct, list_any}
use Rattle.std.specs.Cmp.{nat_eq_equiv}
use Rattle.std.proofs.lemmas.Map.Keys.{IsDistinct-push}
use Rattle.std.proofs.lemmas.List.{length-append}
use Rattle.flush_list.specs.Lists.{FlushListState, HasLines, is_listed, one_or_none, lines_of}

-- a list with these lines
abbrev kept_as : Option ℕ → List ℕ → ℕ → ℕ → FlushListState
kept_as first others given spare = record { lines = lines_of first others; given = given; spare = spare }

pub joined_first : (first : Option ℕ) (others : List ℕ) (places given spare line : ℕ) → HasLines first others places (kept_as first others given spare) → is_some first ≡ false
    → 0 < spare → HasLines (Some line) others places (record { lines = line ∷ others; given = given; spare = spare - 1 })
unfolding IsDistinct
joined_first None others places given spare line h none some =
    let empty : others ≡ [] = h.order none in
    let was : HasLines None [] places (kept_as None [] given spare) = subst (λ (xs : List ℕ). HasLines None xs places (kept_as None xs given spare)) empty h in
    subst (λ (xs : List ℕ). HasLines (Some line) xs places (record { lines = line ∷ xs; given = given; spare = spare - 1 })) (sym empty) (record {
      once = (tt, tt);
      given = let g = was.given in omega (arith, g);
      few = let g = was.few in omega (arith, g, some);
      order = λ no. absurd (true≢false no);
      room = let g = was.room in omega (arith, g, some);
    })
joined_first (Some x) others places given spare line h none some = absurd (true≢false none)

pub joined_other : (first : Option ℕ) (others : List ℕ) (places places' given spare line : ℕ) → HasLines first others places (kept_as first others given spare) → is_some first ≡ true
    → is_listed (lines_of first others) line ≡ false → 0 < spare → places ≤ places' + 1
    → HasLines first (others ++ line ∷ []) places' (kept_as first (others ++ line ∷ []) given (spare - 1))
joined_other first others places places' given spare line h first_there new some less =
    let one = line ∷ [] in
    let long = length-append (one_or_none first) (others ++ one) in
    let longer = length-append others one in
    let was = length-append (one_or_none first) others in
    record {
      once = subst (IsDistinct nat_eq) (append_assoc (one_or_none first) others one) (IsDistinct-push nat_eq_equiv (lines_of first others) line h.once new);
      given = let g = h.given in omega (arith, g, long, longer, was);
      few = let g = h.few in omega (arith, g, some, long, longer, was);
      order = λ no. absurd (true≢false (sym first_there ∙ no));
      room = let g = h.room in omega (arith, g, some, less, long, longer, was);
    }

-- a line that is not among the lines is not among the others
pub new_to_others : (first : Option ℕ) (others : List ℕ) (line : ℕ) → is_listed (lines_of first others) line ≡ false → list_any (nat_eq line) others ≡ false
new_to_others None others line new = new
new_to_others (Some x) others line new = by (nat_eq line x) (list_any (nat_eq line) others) new
  where
    by : (a b : Bool) → (a || b) ≡ false → b ≡ false
    by true true h = absurd (true≢false h)
    by true false h = refl
    by false b h = h
