-- Bytes without a separator, and what is joined and cut again.
use Rattle.std.proofs.Common.{◌≡◌, ℕ, ◌<◌, ◌≤◌, ◌^◌, ◌==◌, Bool, true, false, not, ltb, ◌&&◌, List, [], ◌∷◌, ◌++◌, refl, sym, ap, ◌∙◌, append_assoc, arith}
use Rattle.std.specs.List.{onto_first, join_with_byte}
use Rattle.std.specs.Fmt.{decimal}
use Rattle.std.specs.Str.Parse.{AllDigits, digits_value}
use Rattle.std.proofs.lemmas.Bool.{ne_eqb, ltb-true, lt-ltb}
use Rattle.std.proofs.lemmas.Bool.Decides.{nat_tests}
use Rattle.std.proofs.lemmas.Str.Parse.{IsNumeralModel, numerals_by_value, tells_digits, digit_from_value}
use Rattle.std.proofs.lemmas.Fmt.{digits_decimal}
use Rattle.std.proofs.lemmas.List.Splits.{slice_split-cons_yes, slice_split-cons_no, join_with_byte-slice_split}
use Rattle.script_text.specs.Pieces.{pieces, joined}
use Rattle.script_text.specs.Text.{spaced, ended}

-- no byte is the separator
abbrev pub free : ℕ → List ℕ → Bool
free at [] = true
free at (b ∷ bs) = not (b == at) && free at bs

-- no piece has the separator
abbrev pub AreFree : ℕ → List (List ℕ) → Type 0
AreFree at [] = Unit {0}
AreFree at (w ∷ ws) = (free at w ≡ true) × AreFree at ws

-- the first of two tests that both hold
pub and_left : (a b : Bool) → (a && b) ≡ true → a ≡ true
and_left true b e = refl
and_left false b e = absurd cc

-- the second of two tests that both hold
pub and_right : (a b : Bool) → (a && b) ≡ true → b ≡ true
and_right true b e = e
and_right false b e = absurd cc

-- two tests that hold, together
pub and_both : (a b : Bool) → a ≡ true → b ≡ true → (a && b) ≡ true
and_both true b p q = q
and_both false b p q = absurd cc

-- a test whose contrary holds fails
not_true : (b : Bool) → not b ≡ true → b ≡ false
not_true true e = absurd cc
not_true false e = refl

-- bytes without the separator, one after another
pub free-append : (at : ℕ) (xs ys : List ℕ) → free at xs ≡ true → free at ys ≡ true → free at (xs ++ ys) ≡ true
free-append at [] ys p q = q
free-append at (x ∷ xs) ys p q = and_both (not (x == at)) (free at (xs ++ ys)) (and_left _ _ p) (free-append at xs ys (and_right (not (x == at)) (free at xs) p) q)

-- the piece before a separator
pub cut_at : (at : ℕ) (xs ys : List ℕ) → free at xs ≡ true → pieces at (xs ++ at ∷ ys) ≡ xs ∷ pieces at ys
cut_at at [] ys p = slice_split-cons_yes (λ b. b == at) at ys (grind (arith, nat_tests))
cut_at at (x ∷ xs) ys p =
    slice_split-cons_no (λ b. b == at) x (xs ++ at ∷ ys) (not_true (x == at) (and_left (not (x == at)) (free at xs) p))
    ∙ ap (onto_first x) (cut_at at xs ys (and_right (not (x == at)) (free at xs) p))

-- one piece
pub cut_none : (at : ℕ) (xs : List ℕ) → free at xs ≡ true → pieces at xs ≡ xs ∷ []
cut_none at [] p = refl
cut_none at (x ∷ xs) p =
    slice_split-cons_no (λ b. b == at) x xs (not_true (x == at) (and_left (not (x == at)) (free at xs) p))
    ∙ ap (onto_first x) (cut_none at xs (and_right (not (x == at)) (free at xs) p))

-- what was joined is cut again
pub pieces-joined : (at : ℕ) (w : List ℕ) (ws : List (List ℕ)) → AreFree at (w ∷ ws) → pieces at (joined at (w ∷ ws)) ≡ w ∷ ws
pieces-joined at w [] h = cut_none at w h.0
pieces-joined at w (v ∷ vs) h = cut_at at w (joined at (v ∷ vs)) h.0 ∙ ap (λ (ps : List (List ℕ)). w ∷ ps) (pieces-joined at v vs h.1)

-- what was cut is joined again
pub joined-pieces : (at : ℕ) (bs : List ℕ) (ws : List (List ℕ)) → pieces at bs ≡ ws → bs ≡ joined at ws
joined-pieces at bs ws e = sym (join_with_byte-slice_split at bs) ∙ ap (join_with_byte at) e

-- the lines of a text
pub pieces-ended : (ls : List (List ℕ)) → AreFree 10 ls → pieces 10 (ended ls) ≡ ls ++ [] ∷ []
pieces-ended [] h = refl
pieces-ended (l ∷ ls) h =
    ap (pieces 10) (append_assoc l (10 ∷ []) (ended ls)) ∙ cut_at 10 l (ended ls) h.0 ∙ ap (λ (ps : List (List ℕ)). l ∷ ps) (pieces-ended ls h.1)

-- lines joined by line feeds, with an empty piece behind the last
joined_ended : (ls : List (List ℕ)) → joined 10 (ls ++ [] ∷ []) ≡ ended ls
joined_ended [] = refl
joined_ended (l ∷ []) = sym (append_assoc l (10 ∷ []) [])
joined_ended (l ∷ m ∷ ls) = ap (λ (t : List ℕ). l ++ 10 ∷ t) (joined_ended (m ∷ ls)) ∙ sym (append_assoc l (10 ∷ []) (ended (m ∷ ls)))

-- a text whose last piece is empty is its lines, each with a line feed
pub ended-pieces : (bs : List ℕ) (ls : List (List ℕ)) → pieces 10 bs ≡ ls ++ [] ∷ [] → bs ≡ ended ls
ended-pieces bs ls e = joined-pieces 10 bs (ls ++ [] ∷ []) e ∙ joined_ended ls

-- pieces without the separator, one list after another
pub AreFree-append : (at : ℕ) (xs ys : List (List ℕ)) → AreFree at xs → AreFree at ys → AreFree at (xs ++ ys)
AreFree-append at [] ys p q = q
AreFree-append at (x ∷ xs) ys p q = (p.0, AreFree-append at xs ys p.1 q)

-- a joined text has no other separator
pub free-joined : (at by : ℕ) (w : List ℕ) (ws : List (List ℕ)) → (by == at) ≡ false → AreFree at (w ∷ ws) → free at (joined by (w ∷ ws)) ≡ true
free-joined at by w [] ne h = h.0
free-joined at by w (v ∷ vs) ne h = free-append at w (by ∷ joined by (v ∷ vs)) h.0 (and_both (not (by == at)) (free at (joined by (v ∷ vs))) (ap not ne) (free-joined at by v vs ne h.1))

-- a number has no byte that is no digit
free_digits : (at : ℕ) (ds : List ℕ) → (48 ≤ at → 57 < at) → AllDigits 10 ds → free at ds ≡ true
free_digits at [] h p = refl
free_digits at (d ∷ ds) h p =
    let digit = digit_from_value d p.0 in
    and_both (not (d == at)) (free at ds) (ap not (ne_eqb d at (λ e. omega arith))) (free_digits at ds h p.1)

-- the digits of a number, by their value
own : IsNumeralModel (AllDigits 10) (digits_value 10)
own = numerals_by_value (AllDigits 10) tells_digits

-- a number has no separator that is no digit
pub free-decimal : (at n : ℕ) → (48 ≤ at → 57 < at) → n < 2 ^ 64 → free at (decimal n) ≡ true
free-decimal at n h small = free_digits at (decimal n) h (digits_decimal own n small)

-- every byte is above a space
abbrev pub solid : List ℕ → Bool
solid [] = true
solid (b ∷ bs) = ltb 32 b && solid bs

-- every byte of each word is above a space
abbrev pub AreSolid : List (List ℕ) → Type 0
AreSolid [] = Unit {0}
AreSolid (w ∷ ws) = (solid w ≡ true) × AreSolid ws

-- bytes above a space, one after another
pub solid-append : (xs ys : List ℕ) → solid xs ≡ true → solid ys ≡ true → solid (xs ++ ys) ≡ true
solid-append [] ys p q = q
solid-append (x ∷ xs) ys p q = and_both (ltb 32 x) (solid (xs ++ ys)) (and_left (ltb 32 x) (solid xs) p) (solid-append xs ys (and_right (ltb 32 x) (solid xs) p) q)

-- digits are above a space
solid_digits : (ds : List ℕ) → AllDigits 10 ds → solid ds ≡ true
solid_digits [] p = refl
solid_digits (d ∷ ds) p = let digit = digit_from_value d p.0 in and_both (ltb 32 d) (solid ds) (lt-ltb 32 d (omega arith)) (solid_digits ds p.1)

-- a number is above a space throughout
pub solid-decimal : (n : ℕ) → n < 2 ^ 64 → solid (decimal n) ≡ true
solid-decimal n small = solid_digits (decimal n) (digits_decimal own n small)

-- bytes above a space have no separator up to the space
pub free-solid : (at : ℕ) (w : List ℕ) → at ≤ 32 → solid w ≡ true → free at w ≡ true
free-solid at [] h p = refl
free-solid at (b ∷ bs) h p =
    let above = ltb-true 32 b (and_left (ltb 32 b) (solid bs) p) in
    and_both (not (b == at)) (free at bs) (ap not (ne_eqb b at (λ e. omega arith))) (free-solid at bs h (and_right (ltb 32 b) (solid bs) p))

-- words above a space have no separator up to the space
pub AreFree-solid : (at : ℕ) (ws : List (List ℕ)) → at ≤ 32 → AreSolid ws → AreFree at ws
AreFree-solid at [] h p = tt
AreFree-solid at (w ∷ ws) h p = (free-solid at w h p.0, AreFree-solid at ws h p.1)

-- a line of solid words has no line feed
pub free-spaced : (ws : List (List ℕ)) → AreSolid ws → free 10 (spaced ws) ≡ true
free-spaced [] p = refl
free-spaced (w ∷ ws) p = free-joined 10 32 w ws refl (AreFree-solid 10 (w ∷ ws) (omega arith) p)
