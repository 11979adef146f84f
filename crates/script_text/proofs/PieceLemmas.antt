-- Cutting bytes at a separator.
use Rattle.std.proofs.Common.{◌≡◌, ℕ, ◌+◌, ◌-◌, ◌<◌, ◌≤◌, Bool, true, false, not, cond, ltb, List, [], ◌∷◌, length, take, drop, Some, None, Ok, ◌==◌, refl, sym, ap, ◌∙◌, arith, length-drop}
use Rattle.std.specs.List.{slice_split, onto_first, position, position_or_len}
use Rattle.std.proofs.lemmas.Bool.{ltb-false}
use borrow.Author.Tests.{ltb-true}
use Rattle.std.proofs.lemmas.Option.{cond_some}
use Rattle.std.proofs.lemmas.List.Splits.{slice_split-cons_no, slice_split_first, length-slice_split}
use Rattle.std.proofs.Math.Seq.{take-length}
use Rattle.script_text.specs.Pieces.{pieces}
use Rattle.script_text.specs.Reading.{line_among}

-- what a slice from a place to the end shows
to_the_end : (i : ℕ) (xs : List ℕ) → take (length xs - i) (drop i xs) ≡ drop i xs
to_the_end i xs = ap (λ (n : ℕ). take n (drop i xs)) (sym (length-drop i xs)) ∙ take-length (drop i xs)

-- the first piece ends where the separator comes first
first_at_place : (p : ℕ → Bool) (xs : List ℕ) (i : ℕ) → (position_or_len p xs < length xs) → position_or_len p xs ≡ i → slice_split p xs ≡ take i xs ∷ slice_split p (take (length xs - (i + 1)) (drop (i + 1) xs))
first_at_place p xs i lt is =
    slice_split_first p xs 0 lt ∙ ap (λ (k : ℕ). take k xs ∷ slice_split p (drop (k + 1) xs)) is ∙ ap (λ (ys : List ℕ). take i xs ∷ slice_split p ys) (sym (to_the_end (i + 1) xs))

-- round the first separator
pub first_at : (p : ℕ → Bool) (xs : List ℕ) (i : ℕ) → position p xs ≡ Some i → slice_split p xs ≡ take i xs ∷ slice_split p (take (length xs - (i + 1)) (drop (i + 1) xs))
first_at p xs i e =
    let parts = cond_some (ltb (position_or_len p xs) (length xs)) (position_or_len p xs) i e in
    first_at_place p xs i (ltb-true _ _ parts.0) parts.1

-- one more byte that is no separator makes no piece more
no_place_on : (p : ℕ → Bool) (x : ℕ) (xs : List ℕ) → (length xs ≤ position_or_len p xs → slice_split p xs ≡ xs ∷ []) → (b : Bool) → p x ≡ b → length (x ∷ xs) ≤ position_or_len p (x ∷ xs) → slice_split p (x ∷ xs) ≡ (x ∷ xs) ∷ []
no_place_on p x xs more true e h =
    let z : position_or_len p (x ∷ xs) ≡ 0 = ap (λ (b : Bool). cond (not b) (1 + position_or_len p xs) 0) e in
    absurd (omega (arith, z, h))
no_place_on p x xs more false e h =
    let z : position_or_len p (x ∷ xs) ≡ 1 + position_or_len p xs = ap (λ (b : Bool). cond (not b) (1 + position_or_len p xs) 0) e in
    slice_split-cons_no p x xs e ∙ ap (onto_first x) (more (omega (arith, z, h)))

-- bytes with no separator are one piece
no_place : (p : ℕ → Bool) (xs : List ℕ) → length xs ≤ position_or_len p xs → slice_split p xs ≡ xs ∷ []
no_place p [] h = refl
no_place p (x ∷ xs) h = no_place_on p x xs (no_place p xs) (p x) refl h

-- where nothing was found the test failed
no_some : (b : Bool) (i : ℕ) → cond b (Some i) None ≡ None → b ≡ false
no_some true i e = absurd cc
no_some false i e = refl

-- no separator: one piece
pub no_cut : (p : ℕ → Bool) (xs : List ℕ) → position p xs ≡ None → slice_split p xs ≡ xs ∷ []
no_cut p xs e = no_place p xs (ltb-false _ _ (no_some (ltb (position_or_len p xs) (length xs)) (position_or_len p xs) e))

-- four pieces, and more behind them
pub five_pieces : (p : ℕ → Bool) (ws w2 w3 w4 : List (List ℕ)) (a b c d rest : List ℕ) → ws ≡ a ∷ w2 → w2 ≡ b ∷ w3 → w3 ≡ c ∷ w4 → w4 ≡ d ∷ slice_split p rest → 4 < length ws
five_pieces p ws w2 w3 w4 a b c d rest e1 e2 e3 e4 =
    omega (arith, ap length e1, ap length e2, ap length e3, ap length e4, length-slice_split p rest)

-- a piece in front of more is a line
line_of_more : (first : List ℕ) (ps : List (List ℕ)) (n : ℕ) → 0 < length ps → line_among (first ∷ ps) n ≡ Ok (first, record { pieces = ps; line = n + 1 })
line_of_more first [] n h = absurd (omega arith)
line_of_more first (p ∷ ps) n h = refl

-- a whole line, since pieces follow it
pub line_found : (ps : List (List ℕ)) (first rest : List ℕ) (n : ℕ) → ps ≡ first ∷ pieces 10 rest → line_among ps n ≡ Ok (first, record { pieces = pieces 10 rest; line = n + 1 })
line_found ps first rest n e =
    ap (λ (qs : List (List ℕ)). line_among qs n) e ∙ line_of_more first (pieces 10 rest) n (omega (arith, length-slice_split (λ b. b == 10) rest))

-- two pieces, and more behind them
pub three_pieces : (p : ℕ → Bool) (ws w2 : List (List ℕ)) (a b rest : List ℕ) → ws ≡ a ∷ w2 → w2 ≡ b ∷ slice_split p rest → 2 < length ws
three_pieces p ws w2 a b rest e1 e2 = omega (arith, ap length e1, ap length e2, length-slice_split p rest)
