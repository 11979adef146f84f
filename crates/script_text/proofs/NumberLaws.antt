-- What is read as a number is its decimal text, and that is read again.
use Rattle.std.proofs.Common.{◌≡◌, ℕ, ◌+◌, ◌-◌, ◌*◌, ◌<◌, ◌≤◌, ◌^◌, ◌==◌, Bool, true, false, cond, ltb, leb, ◌&&◌, List, [], ◌∷◌, Option, Some, None, Result, Ok, Err, length, get_or, refl, sym, ap, ◌∙◌, arith, rules, inl, inr}
use Rattle.std.specs.Fmt.{decimal}
use Rattle.std.specs.Char.{is_ascii_digit}
use Rattle.std.specs.Str.{all_ascii_digits}
use Rattle.std.proofs.lemmas.Bool.{ltb-true, lt-ltb, leb-true, le-leb, cases_lt}
use Rattle.std.proofs.lemmas.Bool.Decides.{nat_tests}
use Rattle.std.proofs.lemmas.Str.Parse.{IsNumeralModel, numerals_by_fold, tells_all_ascii_digits}
use Rattle.std.proofs.lemmas.Fmt.{digits_decimal, digits_value-decimal, decimal-digits_value, decimal_digit, first_decimal}
use Rattle.script_text.specs.declared.fault.ScriptFault.{ScriptFault}
use Rattle.script_text.specs.Faults.{out_of_range, ◌>>=◌, fault}
use Rattle.script_text.specs.Numbers.{digits_read, number_of}
use Rattle.script_text.specs.Reading.{number_or_fault, number_at, limited_at}
use Rattle.script_text.proofs.Free.{and_left, and_right, and_both}

-- the number so far, and the digits that follow it
abbrev pub read_on : ℕ → List ℕ → ℕ
read_on n [] = n
read_on n (c ∷ cs) = read_on (n * 10 + (c - 48)) cs

-- a number by its digits, read on from 0
own : IsNumeralModel (λ ds. all_ascii_digits ds ≡ true) (read_on 0)
own = numerals_by_fold _ tells_all_ascii_digits read_on (search rules)

-- a number does not fall as digits follow
read_grows : (n : ℕ) (cs : List ℕ) → n ≤ read_on n cs
read_grows n [] = omega arith
read_grows n (c ∷ cs) = omega (arith, read_grows (n * 10 + (c - 48)) cs)

-- digits that were read are digits, of that value and no larger than a word
digits_ok : (n : ℕ) (cs : List ℕ) (m : ℕ) → n < 2 ^ 64 → digits_read n cs ≡ Some m → (all_ascii_digits cs ≡ true) × (read_on n cs ≡ m) × (m < 2 ^ 64)
digits_ok n [] m small e = let same : n ≡ m = grind arith in (refl, same, omega arith)
digits_ok n (c ∷ cs) m small e =
    let next = n * 10 + (c - 48) in
    let go = passed (is_ascii_digit c && ltb next (2 ^ 64)) (digits_read next cs) m e in
    let more = digits_ok next cs m (ltb-true _ _ (and_right (is_ascii_digit c) (ltb next (2 ^ 64)) go.0)) go.1 in
    (and_both (is_ascii_digit c) (all_ascii_digits cs) (and_left (is_ascii_digit c) (ltb next (2 ^ 64)) go.0) more.0, more.1, more.2)
  where
    passed : (b : Bool) (o : Option ℕ) (m : ℕ) → cond b o None ≡ Some m → (b ≡ true) × (o ≡ Some m)
    passed true o m e = (refl, e)
    passed false o m e = absurd cc

-- digits of a value that fits are read
digits_again : (n : ℕ) (cs : List ℕ) → all_ascii_digits cs ≡ true → read_on n cs < 2 ^ 64 → digits_read n cs ≡ Some (read_on n cs)
digits_again n [] p lt = refl
digits_again n (c ∷ cs) p lt =
    let next = n * 10 + (c - 48) in
    let fits : next < 2 ^ 64 = omega (arith, read_grows next cs) in
    let go : (is_ascii_digit c && ltb next (2 ^ 64)) ≡ true = and_both (is_ascii_digit c) (ltb next (2 ^ 64)) (and_left (is_ascii_digit c) (all_ascii_digits cs) p) (lt-ltb _ _ fits) in
    ap (λ (b : Bool). cond b (digits_read next cs) None) go ∙ digits_again next cs (and_right (is_ascii_digit c) (all_ascii_digits cs) p) lt

-- digits that are read are the decimal text of their number
numeral_ok : (cs : List ℕ) (m : ℕ) → 0 < length cs → (get_or cs 0 0 ≡ 48 → length cs ≡ 1) → digits_read 0 cs ≡ Some m → (cs ≡ decimal m) × (m < 2 ^ 64)
numeral_ok cs m some no_zero e =
    let got = digits_ok 0 cs m (omega arith) e in
    let small : read_on 0 cs < 2 ^ 64 = omega (arith, got.1, got.2) in
    (sym (decimal-digits_value own cs got.0 some no_zero small) ∙ ap decimal got.1, got.2)

-- what was read where a test may refuse
unless : (b : Bool) (o : Option ℕ) (m : ℕ) → cond b None o ≡ Some m → (b ≡ false) × (o ≡ Some m)
unless true o m e = absurd cc
unless false o m e = (refl, e)

-- a word that is a number is its decimal text
pub number_of_ok : (w : List ℕ) (m : ℕ) → number_of w ≡ Some m → (w ≡ decimal m) × (m < 2 ^ 64)
number_of_ok [] m e = absurd cc
number_of_ok (c ∷ []) m e = numeral_ok (c ∷ []) m (omega arith) (λ _. refl) e
number_of_ok (c ∷ d ∷ ds) m e =
    let go = unless (c == 48) (digits_read 0 (c ∷ d ∷ ds)) m e in
    numeral_ok (c ∷ d ∷ ds) m (omega arith) (λ zero. absurd (grind (arith, nat_tests, go.0, zero))) go.1

-- the digits of a number are read as that number
numeral_again : (n : ℕ) → n < 2 ^ 64 → digits_read 0 (decimal n) ≡ Some n
numeral_again n small =
    let value : read_on 0 (decimal n) ≡ n = digits_value-decimal own n small in
    digits_again 0 (decimal n) (digits_decimal own n small) (omega (arith, value)) ∙ ap Some value

-- a word that does not begin with a zero is read digit by digit
plain_word : (w : List ℕ) → 48 < get_or w 0 0 → number_of w ≡ digits_read 0 w
plain_word [] lt = absurd (omega arith)
plain_word (c ∷ []) lt = refl
plain_word (c ∷ d ∷ ds) lt = let no : (c == 48) ≡ false = grind (arith, nat_tests) in ap (λ (b : Bool). cond b None (digits_read 0 (c ∷ d ∷ ds))) no

-- a single digit is read by its digits
one_digit : (w : List ℕ) (d : ℕ) → w ≡ d ∷ [] → number_of w ≡ digits_read 0 w
one_digit w d e = ap number_of e ∙ ap (digits_read 0) (sym e)

-- the decimal text of a number is read as it
pub number_of_again : (n : ℕ) → n < 2 ^ 64 → number_of (decimal n) ≡ Some n
number_of_again n small = elim (cases_lt n 10) [
  | inl lt ↦ one_digit (decimal n) (48 + n) (decimal_digit n lt) ∙ numeral_again n small
  | inr ge ↦ plain_word (decimal n) (first_decimal n (omega arith) small) ∙ numeral_again n small
]

-- a number that was found is no fault
or_fault : (line : ℕ) (o : Option ℕ) (m : ℕ) → number_or_fault line o ≡ Ok m → o ≡ Some m
or_fault line None m e = absurd cc
or_fault line (Some n) m e = let same : n ≡ m = grind arith in ap Some same

-- a number that was read is written as that word
pub number_ok : (line : ℕ) (w : List ℕ) (m : ℕ) → number_at line w ≡ Ok m → (w ≡ decimal m) × (m < 2 ^ 64)
number_ok line w m e = number_of_ok w m (or_fault line (number_of w) m e)

-- a number as it is written is read
pub number_again : (line n : ℕ) → n < 2 ^ 64 → number_at line (decimal n) ≡ Ok n
number_again line n small = ap (number_or_fault line) (number_of_again n small)

-- the value of a step that did not fail
pub bind_ok : {A B : Type 0} (r : Result A ScriptFault) (f : A → Result B ScriptFault) (y : B) → (r >>= f) ≡ Ok y → (x : A) × (r ≡ Ok x) × (f x ≡ Ok y)
bind_ok (Ok x) f y e = (x, refl, e)
bind_ok (Err d) f y e = absurd cc

-- a step that did not fail, and what follows it
pub bind_to : {A B : Type 0} (r : Result A ScriptFault) (f : A → Result B ScriptFault) (x : A) (z : Result B ScriptFault) → r ≡ Ok x → f x ≡ z → (r >>= f) ≡ z
bind_to {A} r f x z e h = ap (λ (q : Result A ScriptFault). q >>= f) e ∙ h

-- a test that passed
pub guard_ok : {A : Type 0} (b : Bool) (r : Result A ScriptFault) (d : ScriptFault) (y : A) → cond b r (Err d) ≡ Ok y → (b ≡ true) × (r ≡ Ok y)
guard_ok true r d y e = (refl, e)
guard_ok false r d y e = absurd cc

-- a reading that did not fail
abbrev pub done : {A : Type 0} → A → Result A ScriptFault
done x = Ok x

-- two readings that did not fail and are the same gave the same
pub ok_is : {A : Type 0} (x y : A) → done x ≡ done y → x ≡ y
ok_is x y e = cc

-- a number that was read within limits is written as that word, and is within them
pub limited_ok : (line low high : ℕ) (w : List ℕ) (m : ℕ) → limited_at line low high w ≡ Ok m → (w ≡ decimal m) × (m < 2 ^ 64) × (low ≤ m) × (m ≤ high)
limited_ok line low high w m e =
    let b = bind_ok (number_at line w) (λ n. cond (leb low n && leb n high) (Ok n) (Err (fault line out_of_range))) m e in
    let got = number_ok line w b.0 b.1 in
    let g = guard_ok (leb low b.0 && leb b.0 high) (Ok b.0) (fault line out_of_range) m b.2 in
    let same : b.0 ≡ m = ok_is b.0 m g.1 in
    let above = leb-true low b.0 (and_left (leb low b.0) (leb b.0 high) g.0) in
    let below = leb-true b.0 high (and_right (leb low b.0) (leb b.0 high) g.0) in
    (got.0 ∙ ap decimal same, omega (arith, got.1), omega arith, omega arith)

-- a number within limits, as it is written, is read
pub limited_again : (line low high n : ℕ) → n < 2 ^ 64 → low ≤ n → n ≤ high → limited_at line low high (decimal n) ≡ Ok n
limited_again line low high n small above below =
    let go : (leb low n && leb n high) ≡ true = and_both (leb low n) (leb n high) (le-leb low n above) (le-leb n high below) in
    ap (λ (r : Result ℕ ScriptFault). r >>= λ n. cond (leb low n && leb n high) (Ok n) (Err (fault line out_of_range))) (number_again line n small)
    ∙ ap (λ (b : Bool). cond b (done n) (Err (fault line out_of_range))) go
