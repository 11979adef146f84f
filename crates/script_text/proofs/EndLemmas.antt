-- What stands behind the last line.
use Rattle.std.proofs.Common.{◌≡◌, ℕ, ◌<◌, Bool, true, false, List, [], ◌∷◌, length, Err, refl, ap, ◌∙◌, ◌==◌, arith}
use Rattle.std.specs.List.{onto_first}
use Rattle.std.proofs.lemmas.List.Splits.{slice_split-cons_yes, slice_split-cons_no, length-slice_split}
use Rattle.script_text.specs.Pieces.{pieces}
use Rattle.script_text.specs.Faults.{text_after, fault}
use Rattle.script_text.specs.Whole.{nothing_among}

-- a line feed that follows is a fault
two_left : (ps : List (List ℕ)) (n : ℕ) → 0 < length ps → nothing_among ([] ∷ ps) n ≡ Err (fault n text_after)
two_left [] n h = absurd (omega arith)
two_left (p ∷ ps) n h = refl

-- a first byte that follows is a fault
some_left : (b : ℕ) (ps : List (List ℕ)) (n : ℕ) → nothing_among (onto_first b ps) n ≡ Err (fault n text_after)
some_left b [] n = refl
some_left b (p ∷ []) n = refl
some_left b (p ∷ q ∷ ps) n = refl

-- whatever byte follows, it is a fault
left_on : (b : ℕ) (bs : List ℕ) (n : ℕ) (t : Bool) → (b == 10) ≡ t → nothing_among (pieces 10 (b ∷ bs)) n ≡ Err (fault n text_after)
left_on b bs n true e = ap (λ (ps : List (List ℕ)). nothing_among ps n) (slice_split-cons_yes (λ c. c == 10) b bs e) ∙ two_left (pieces 10 bs) n (omega (arith, length-slice_split (λ c. c == 10) bs))
left_on b bs n false e = ap (λ (ps : List (List ℕ)). nothing_among ps n) (slice_split-cons_no (λ c. c == 10) b bs e) ∙ some_left b (pieces 10 bs) n

-- a byte that follows is a fault
pub bytes_left : (bytes : List ℕ) (n : ℕ) → (length bytes == 0) ≡ false → nothing_among (pieces 10 bytes) n ≡ Err (fault n text_after)
bytes_left [] n h = absurd cc
bytes_left (b ∷ bs) n h = left_on b bs n (b == 10) refl
