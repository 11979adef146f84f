-- Which words are numbers.
use Rattle.std.proofs.Common.{◌≡◌, ℕ, ◌<◌, ◌^◌, ◌==◌, ◌&&◌, Bool, cond, true, false, true≢false, List, [], ◌∷◌, length, drop, get_or, Result, Ok, Err, refl, ap, sym, subst, ◌∙◌, inl, inr, arith, ne_eqb, eq-eqb, eqb-true}
use Rattle.std.specs.Prelude.{not}
use Rattle.std.specs.Bool.{MatchBool}
use Rattle.std.specs.Result.{is_ok}
use Rattle.std.specs.Fmt.{decimal}
use Rattle.std.specs.Str.Parse.{AllDigits, IsNumeral, ParsesUnsigned, digits_value, without_leading_plus}
use Rattle.std.proofs.lemmas.Bool.{cases_lt}
use Rattle.std.proofs.lemmas.Fmt.{decimal-digits_value, decimal_digit, decimal_is_IsNumeral, first_decimal, parse-decimal}
use Rattle.std.proofs.lemmas.Str.Parse.{IsNumeralModel, numerals_by_value, tells_digits, digit_from_value}
use Rattle.clap.specs.ValueTests.{is_unsigned_in}
use Rattle.clap.specs.declared.builder.value_parser.ValueParser.TheVariants as parsers
use Rattle.clap.proofs.ValueTestLemmas.{Accepts-accepts}
use Rattle.program_words.specs.Words.{IsNumber, has_number_front}

own : IsNumeralModel (AllDigits 10) (digits_value 10)
own = numerals_by_value (AllDigits 10) tells_digits

-- digits of 64 bits with no zero in front are a number
pub number_read : (word : List ℕ) → IsNumeral 10 word → digits_value 10 word < 2 ^ 64 → (get_or word 0 0 ≡ 48 → length word ≡ 1) → (number : ℕ) × IsNumber word number
number_read word numeral small front = (digits_value 10 word, (sym (decimal-digits_value own word numeral.1 numeral.0 front small), small))

-- a number is such digits
pub numeral_of : (word : List ℕ) (number : ℕ) → IsNumber word number → IsNumeral 10 word × (digits_value 10 word ≡ number)
numeral_of word number is = subst (λ (w : List ℕ). IsNumeral 10 w × (digits_value 10 w ≡ number)) (sym is.0) (decimal_is_IsNumeral number is.1)

-- a digit is no plus and no dash
pub no_sign : (c sign : ℕ) (cs : List ℕ) → AllDigits 10 (c ∷ cs) → sign < 48 → (c == sign) ≡ false
no_sign c sign cs digits low = ne_eqb c sign (λ e. omega (arith, digit_from_value c digits.0))

pub no_plus : (word : List ℕ) → IsNumeral 10 word → without_leading_plus word ≡ word
no_plus [] numeral = refl
no_plus (c ∷ cs) numeral = rw (no_sign c 43 cs numeral.1 (omega arith)) refl

-- clap takes it
pub number_fits : (word : List ℕ) (number : ℕ) → IsNumber word number → is_unsigned_in 0 18446744073709551615 word ≡ true
number_fits word number is =
    let digits = numeral_of word number is in
    let same = no_plus word digits.0 in
    Accepts-accepts false (parsers.Unsigned 0 18446744073709551615) word (rw same (digits.0, omega (arith, digits.1, is.1), omega arith, omega (arith, digits.1, is.1)))

-- its word is read as the number
pub number_read_as : (n v : ℕ) → n < 2 ^ 64 → ParsesUnsigned {E = Unit {0}} 64 10 (decimal n) (Ok v) → n ≡ v
number_read_as n v small parses = let same : ◌≡◌ {A = Result ℕ (Unit {0})} (Ok v) (Ok n) = parse-decimal 64 n (decimal n) (Ok v) small small refl parses in cc

-- and is not refused
pub number_not_refused : (n : ℕ) → n < 2 ^ 64 → ParsesUnsigned {E = Unit {0}} 64 10 (decimal n) (Err tt) → ⊥
number_not_refused n small parses = let same : ◌≡◌ {A = Result ℕ (Unit {0})} (Err tt) (Ok n) = parse-decimal 64 n (decimal n) (Err tt) small small refl parses in cc

-- a word with a zero in front is none but `0`
pub no_front_zero : (c : ℕ) (cs : List ℕ) (number : ℕ) → IsNumber (48 ∷ c ∷ cs) number → ⊥
no_front_zero c cs number is = elim (cases_lt 0 number) [
  | inl some ↦ omega (arith, first_decimal number some is.1, ap (λ (w : List ℕ). get_or w 0 0) is.0)
  | inr none ↦ let zero : number ≡ 0 = omega arith in let lengths = ap length (is.0 ∙ ap decimal zero ∙ decimal_digit 0 (omega arith)) in absurd (omega (arith, lengths))
]

-- ---- the test

-- a word that begins as no number is none
pub fronted : (word : List ℕ) → has_number_front word ≡ false → (number : ℕ) → IsNumber word number → ⊥
fronted [] front number is = let none = numeral_of [] number is in omega (arith, none.0.0)
fronted (c ∷ []) front number is = let plain = no_sign c 43 [] (numeral_of (c ∷ []) number is).0.1 (omega arith) in no_front (c == 43) plain front
  where
    no_front : (plus : Bool) → plus ≡ false → not plus ≡ false → ⊥
    no_front true e n = true≢false e
    no_front false e n = true≢false n
fronted (c ∷ d ∷ ds) front number is = by_front (c == 48) refl
  where
    plain : (c == 43) ≡ false
    plain = no_sign c 43 (d ∷ ds) (numeral_of (c ∷ d ∷ ds) number is).0.1 (omega arith)

    no_front : (plus : Bool) → plus ≡ false → not plus ≡ false → ⊥
    no_front true e n = true≢false e
    no_front false e n = true≢false n

    by_front : (zero : Bool) → (c == 48) ≡ zero → ⊥
    by_front true e = no_front_zero d ds number (subst (λ (z : ℕ). IsNumber (z ∷ d ∷ ds) number) (eqb-true c 48 e) is)
    by_front false e = no_front (c == 43) plain (subst (λ (b : Bool). (not b && not (c == 43)) ≡ false) e front)

-- what the front says of a word
no_leading_zero : (word : List ℕ) → has_number_front word ≡ true → get_or word 0 0 ≡ 48 → length word ≡ 1
no_leading_zero [] front lead = absurd (true≢false (sym front))
no_leading_zero (c ∷ []) front lead = refl
no_leading_zero (c ∷ d ∷ ds) front lead = let bad = subst (λ (b : Bool). (not b && not (c == 43)) ≡ true) (eq-eqb c 48 lead) front in absurd (true≢false (sym bad))

no_leading_plus : (word : List ℕ) → has_number_front word ≡ true → without_leading_plus word ≡ word
no_leading_plus [] front = refl
no_leading_plus (c ∷ []) front = go (c == 43) front
  where
    go : (plus : Bool) → not plus ≡ true → drop (cond plus 1 0) (c ∷ []) ≡ c ∷ []
    go true n = absurd (true≢false (sym n))
    go false n = refl
no_leading_plus (c ∷ d ∷ ds) front = go (c == 48) (c == 43) front
  where
    go : (zero plus : Bool) → (not zero && not plus) ≡ true → drop (cond plus 1 0) (c ∷ d ∷ ds) ≡ c ∷ d ∷ ds
    go true plus n = absurd (true≢false (sym n))
    go false true n = absurd (true≢false (sym n))
    go false false n = refl

-- a word that begins as a number is one where it parses
pub parsed : {E : Type 0} (word : List ℕ) (r : Result ℕ E) → has_number_front word ≡ true → ParsesUnsigned 64 10 word r
    → MatchBool (is_ok r) ((number : ℕ) × IsNumber word number) ((number : ℕ) → IsNumber word number → ⊥)
parsed word (Ok v) front parses =
    let same = no_leading_plus word front in
    let fits : IsNumeral 10 word × (digits_value 10 word < 2 ^ 64) = subst (λ (w : List ℕ). IsNumeral 10 w × (digits_value 10 w < 2 ^ 64)) same parses.0 in
    number_read word fits.0 fits.1 (no_leading_zero word front)
parsed word (Err e) front parses = λ number is.
    let digits = numeral_of word number is in
    let same = no_leading_plus word front in
    parses (subst (λ (w : List ℕ). IsNumeral 10 w × (digits_value 10 w < 2 ^ 64)) (sym same) (digits.0, omega (arith, digits.1, is.1)))
